use Rattle.blockhost.proofs.ending.run_words.Goals as goal

pub returns : goal.returns
returns g c =
    let ran = c.run-outcome.ensures in
    record {
      status = c.run-outcome.result.status;
      report = c.run-outcome.result.report;
      copy = c.run-outcome.result.dry;
      number_is = c.number.ensures;
      has_report = ran.report;
      bad_words = ran.bad_words;
      outside = ran.outside;
      disk_fault = ran.disk_fault;
      script_fault = ran.script_fault;
      sink_fault = ran.sink_fault;
      line = ran.line;
      run = ran.run;
      list = ran.list;
      make = ran.make;
    }
