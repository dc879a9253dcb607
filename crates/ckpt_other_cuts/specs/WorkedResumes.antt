-- A worked example: a record that the adder of `ckpt_once` cuts before it takes what is on the line, and the restart from it. The expected values
-- were written by hand.
use Rattle.std.specs.Prelude.{◌≡◌, List, [], ◌∷◌, ◌++◌, refl, ◌⊎◌}
use Rattle.ckpt_align.specs.Laws.{Channel}
use Rattle.ckpt_once.specs.{Programs.Draws, Programs.Takes, Sinks.Sink, Sinks.written}
use Rattle.ckpt_once.specs.Jobs.{By, IsPrefix, Run, put_on, states_after, starts, taken_off}
use Rattle.ckpt_once.specs.WorkedExamples.{adder, job, line, source}
use Rattle.ckpt_ids.specs.declared.subtask.SubtaskId.{SubtaskId}
use Rattle.ckpt_other_cuts.specs.Restarted.{AreStretches, Begin, Doing, Doings, IsRunFrom, Moves, Snaps, Stretch, anew, begin_after, moves, published, run_of_stretches}
use mathlib.Core.Path.{sym, subst}
use mathlib.Core.Logic.{inl, inr}

abbrev does : SubtaskId → Doing → By Doing
does t doing = record { task = t; what = doing }

-- The newest first: the source reads 100 and takes its snapshot for record 1; the adder takes its own, and then 100. Then the job fails.
abbrev failed : Doings
failed = does adder (Moves (Takes 0 100)) ∷ does adder (Snaps 1) ∷ does source (Snaps 1) ∷ does source (Moves Draws) ∷ []

-- Element 100 was on the way: the record has it.
abbrev pub stretch : Stretch
stretch = record { doings = failed; record_id = 1; part = λ c. 100 ∷ [] }

abbrev pub stretches : List Stretch
stretches = stretch ∷ []

-- Once restarted, the adder takes 100 from the line, and the source reads 101.
abbrev pub again : Doings
again = does source (Moves Draws) ∷ does adder (Moves (Takes 0 100)) ∷ []

abbrev pub sink : Sink
sink = record { task = adder; output = 0 }

pub source_begins : (begin_after job stretches).states source ≡ 1
source_begins = refl

pub adder_begins : (begin_after job stretches).states adder ≡ 0
adder_begins = refl

-- nothing was published up to the record, and 100 is counted once
pub published_so_far : published job sink stretches ≡ []
published_so_far = refl

pub adder_goes_on : states_after job (begin_after job stretches).states (moves again) adder ≡ 100
adder_goes_on = refl

pub written_once : written job (starts job) (moves again ++ run_of_stretches stretches) sink ≡ 100 ∷ []
written_once = refl

-- The premises of the law hold for it.

pub at_line : (P : Channel → Type 0) → P line → (c : Channel) → (c ≡ line) ⊎ ⊥ → P c
at_line P here c (inl e) = subst P (sym e) here
at_line P here c (inr none) = absurd none

abbrev Gives : Begin → Run → Run → Channel → Type 0
Gives b run later c = IsPrefix (taken_off later c) (b.first c ++ put_on job b.states run c)

pub are_stretches : AreStretches job stretches
are_stretches =
    let b : Begin = anew job in
    let first : Run = moves (does source (Moves Draws) ∷ []) in
    let gives : (run later : Run) → Gives b run later line → (c : Channel) → (c ≡ line) ⊎ ⊥ → Gives b run later c = λ run later. at_line (Gives b run later) in
    let r1 : IsRunFrom job b first = (tt, (inl refl, inl refl), gives [] first ([], refl)) in
    let r2 : IsRunFrom job b (moves failed) = (r1, (inr (inl refl), (line, inl refl, refl, refl)), gives first (moves failed) ([], refl)) in
    (tt, r2, at_line (λ c. b.first c ++ put_on job b.states (moves (does source (Moves Draws) ∷ [])) c ≡ taken_off (moves (does source (Moves Draws) ∷ [])) c ++ 100 ∷ []) refl)

pub is_run_from : IsRunFrom job (begin_after job stretches) (moves again)
is_run_from =
    let b : Begin = begin_after job stretches in
    let first : Run = moves (does adder (Moves (Takes 0 100)) ∷ []) in
    let gives : (run later : Run) → Gives b run later line → (c : Channel) → (c ≡ line) ⊎ ⊥ → Gives b run later c = λ run later. at_line (Gives b run later) in
    let r1 : IsRunFrom job b first = (tt, (inr (inl refl), (line, inl refl, refl, refl)), gives [] first ([], refl)) in
    (r1, (inl refl, inl refl), gives first (moves again) ([], refl))
