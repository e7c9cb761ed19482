use Rattle.host_words.specs.{list_meaning, list_options, load_meaning, load_options, make_meaning, make_options, run_meaning, run_options}
use Rattle.host_words.proofs.Answered.{is_list, is_load, is_make, is_run, named_as, named_none}
use Rattle.host_words.proofs.reader.read_named.Goals as goal

pub returns-in-run : goal.returns-in-run
returns-in-run c = named_as c.args.name.now run_options run_meaning _ c.read_run.result (is_run c.args.name.now c.in-run.is) c.read_run.ensures

pub returns-in-list : goal.returns-in-list
returns-in-list c = named_as c.args.name.now list_options list_meaning _ c.read_list.result (is_list c.args.name.now c.in-list.is) c.read_list.ensures

pub returns-in-make : goal.returns-in-make
returns-in-make c = named_as c.args.name.now make_options make_meaning _ c.read_make.result (is_make c.args.name.now c.in-make.is) c.read_make.ensures

pub returns-in-load : goal.returns-in-load
returns-in-load c = named_as c.args.name.now load_options load_meaning _ c.read_load.result (is_load c.args.name.now c.in-load.is) c.read_load.ensures

pub returns-in_default : goal.returns-in_default
returns-in_default c = named_none c.args.name.now _ c.in_default.not-run c.in_default.not-list c.in_default.not-make c.in_default.not-load
