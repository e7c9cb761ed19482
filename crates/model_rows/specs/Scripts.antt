-- Small texts and what they mean, and a script that is made.
use Rattle.std.specs.Prelude.{Some, None, ◌≡◌, [], ◌∷◌, Ok, Err, codes, replicate}
use Rattle.host_record.specs.declared.finish.Finish.TheVariants.{Drain, Abort}
use Rattle.script_model.specs.Generate.{next, drawn, generated}
use Rattle.script_model.specs.Limit.{limit_of, moved_by, moved_by_request}
use Rattle.script_model.specs.Script.{script_of}
use Rattle.script_model.specs.declared.cause.ScriptCause.TheVariants.{BadByte, UnknownWord}
use Rattle.script_model.specs.declared.cause.ScriptCause.TheVariants.{NoSession, AfterEnd}
use Rattle.script_model.specs.declared.cause.ScriptCause.TheVariants.{WrongCount, BadNumber, BadHex}
use Rattle.script_model.specs.declared.cause.ScriptCause.TheVariants.{TooMany}
use Rattle.script_model.specs.declared.limit.Limit.TheVariants.{Sessions, Moved}
use Rattle.script_model.specs.declared.parse_error.ParseError.TheVariants.{Bad}
use Rattle.script_model.specs.declared.script.ScriptLine.TheVariants.{Attach, Fill, Show, Send}
use Rattle.script_model.specs.declared.script.ScriptLine.TheVariants.{WaitAll, WaitFor}

pub record TextsAreScripts : Type 0 where
  -- an empty text, blank lines and comments say nothing
  pub empty : script_of [] ≡ Ok []
  pub blanks : script_of (codes " \t\n\n# x\n") ≡ Ok []
  pub one_session :
      script_of (codes
      "session 1 # the first\r\nattach 08\nfill 1 0 4 A1\nwait\ndrain\nsession 2\n\tabort") ≡ Ok (
      record { part = 1; lines = Attach 8 ∷ Fill 1 0 4 161 ∷ WaitAll ∷ []; finish = Drain }
      ∷ record { part = 2; lines = []; finish = Abort } ∷ [])
  -- a record in a group, and the answers that are owed
  pub sending : script_of (codes "session 1\nflush 20 last 3\nwait 1\n") ≡ Ok (
      record {
        part = 1;
        lines = Send (3 ∷ 12 ∷ 0 ∷ 0 ∷ 20 ∷ 0 ∷ 0 ∷ 0 ∷ 3 ∷ replicate 23 0) ∷ WaitFor 1 ∷ [];
        finish = Drain;
      } ∷ [])
  pub too_many : script_of (codes "session 1\nflush 20 member 3\nwait 1\n") ≡ Err (Bad 3 TooMany)
  pub first_line : script_of (codes "session 1\n\nwiat\nwait x y\n") ≡ Err (Bad 3 UnknownWord)
  pub byte_first : script_of (codes "xyz \r\r\n") ≡ Err (Bad 1 BadByte)
  pub return_at_end : script_of (codes "#\r\n\r") ≡ Err (Bad 2 BadByte)
  pub no_session : script_of (codes "attach\n") ≡ Err (Bad 1 NoSession)
  pub after_end : script_of (codes "session 1\ndrain\nattach x\n") ≡ Err (Bad 3 AfterEnd)
  pub count_before_number : script_of (codes "session 1\nflush x y z\n") ≡ Err (Bad 2 WrongCount)
  pub leftmost : script_of (codes "session 1\nfill 1 0 0 zz\n") ≡ Err (Bad 2 BadNumber)
  pub hex_last : script_of (codes "session 1\nfill 1 0 1 zz\n") ≡ Err (Bad 2 BadHex)
  -- 20 digits are a number, 21 are none
  pub long_number :
      script_of (codes "session 00000000000000000001\nsession 000000000000000000001\n")
      ≡ Err (Bad 2 BadNumber)
  -- a comment begins a word
  pub no_comment : script_of (codes "session 1#2\n") ≡ Err (Bad 1 BadNumber)
  pub draws : drawn (next 1) ∷ drawn (next (next 1)) ∷ drawn (next (next (next 1))) ∷ [] ≡ 16838
      ∷ 5758 ∷ 10113 ∷ []
  -- the script of seed 1, with one session of two requests
  pub made : Ok (generated 1 1 2)
      ≡ script_of (codes
      "session 1\nattach 8\nfill 1 0 8 01\ntrim 0 11 3\nread 1 1 0 11 4\nwait\nshow 1 0 8\ndrain\n")
  -- it moves 8 blocks by its fill, 7 by its requests and 8 by its show
  pub within_limits : limit_of 512 (generated 1 1 2) ≡ None
  pub many_sessions : limit_of 512 (replicate 17 (record { part = 1; lines = []; finish = Drain }))
      ≡ Some Sessions
  pub much_moved : limit_of 512 (record {
    part = 1;
    lines = replicate 65 (Show 1 0 4096);
    finish = Drain;
  } ∷ []) ≡ Some Moved
  -- 64 of them move just 134,217,728 bytes
  pub just_moved : limit_of 512 (record {
    part = 1;
    lines = replicate 64 (Show 1 0 4096);
    finish = Drain;
  } ∷ []) ≡ None
  -- sixteen sessions are allowed
  pub sixteen_sessions :
      limit_of 512 (replicate 16 (record { part = 1; lines = []; finish = Drain })) ≡ None
  -- a read of 65,537 blocks is refused and moves none, one of 65,536 moves as many; a show moves
  -- what it shows
  pub refused_moves_none : moved_by_request (record {
    command = 1;
    reqid = 0;
    group = 0;
    vmoid = 1;
    length = 65537;
    vmo_offset = 0;
    dev_offset = 0;
  }) ≡ 0
  pub longest_moves_all : moved_by_request (record {
    command = 1;
    reqid = 0;
    group = 0;
    vmoid = 1;
    length = 65536;
    vmo_offset = 0;
    dev_offset = 0;
  }) ≡ 65536
  pub shown_is_moved : moved_by (Show 1 0 1) ≡ 1
