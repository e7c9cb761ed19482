-- What the passes of a request ring know, and how each step changes that.
use Rattle.std.specs.Prelude.{ℕ, Bool, false, cond, ltb, List, [], ◌∷◌, ◌++◌, length}
use Rattle.host_rings.specs.declared.envelope.Envelope.{Envelope}
use Rattle.host_rings.specs.declared.request_view.RequestView.{RequestView}
use Rattle.host_log.specs.History.{longer}

abbrev pub request_view : Bool → Bool → ℕ → List Envelope → List Envelope → List Envelope
    → RequestView
request_view pushes pops records pushed taken heard =
    record {
      pushes = pushes;
      pops = pops;
      records = records;
      pushed = pushed;
      taken = taken;
      heard = heard;
    }

-- one more envelope was pushed
abbrev pub pushing_view : RequestView → Envelope → RequestView
pushing_view v e = request_view v.pushes v.pops v.records (v.pushed ++ e ∷ []) v.taken v.heard

-- one more envelope was taken
abbrev pub popping_view : RequestView → Envelope → RequestView
popping_view v e = request_view v.pushes v.pops v.records v.pushed (v.taken ++ e ∷ []) v.heard

-- a note may neither push nor pop, and has heard what the sender pushed
abbrev pub note_view : RequestView → RequestView
note_view v = request_view false false v.records [] [] v.pushed

-- these were heard to be pushed
abbrev pub hearing_view : RequestView → List Envelope → RequestView
hearing_view v heard =
    request_view v.pushes v.pops v.records v.pushed v.taken (longer v.heard heard)

-- a pass that was taken in knows nothing more
abbrev pub spent_request_view : RequestView
spent_request_view = request_view false false 0 [] [] []
