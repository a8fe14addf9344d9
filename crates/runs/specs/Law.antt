-- The law over runs: every event is as the law of its call asks, with what the events before it have put in force.
use Rattle.std.specs.Prelude.{◌≡◌, [], ◌∷◌}
use Rattle.runs.specs.Traces.{Trace, Event, event, set_call, radius_call, load_call, rewind_call, next_call, shape_of, radius_of, weights_of, handed_of}
use Rattle.runs.specs.CallLaws.{SetLaw, RadiusLaw, LoadLaw, RewindLaw, NextLaw}

-- the law of one event after a history
abbrev pub LawOf : Trace → Event → Type 0
LawOf h (event (set_call m r T) answer after) = SetLaw m r T answer × (after ≡ [])
LawOf h (event (radius_call T) answer after) = RadiusLaw (shape_of h) T answer × (after ≡ [])
LawOf h (event (load_call readings) answer after) = LoadLaw (shape_of h) readings answer × (after ≡ [])
LawOf h (event rewind_call answer after) = RewindLaw (shape_of h) (weights_of h) answer × (after ≡ [])
LawOf h (event (next_call rule before) answer after) =
    NextLaw (shape_of h) (radius_of h) (weights_of h) (handed_of h) rule before answer after

-- the law of a whole run
abbrev pub Law : Trace → Type 0
Law [] = Unit {0}
Law (e ∷ h) = LawOf h e × Law h
