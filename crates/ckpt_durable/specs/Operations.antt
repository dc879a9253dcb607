-- What a program does with durable coordinators, one after the other, over one device.
use Rattle.std.specs.Prelude.{◌≡◌, ℕ, List, [], ◌∷◌, ◌++◌, take, ◌⊎◌}
use Rattle.ckpt_terms.specs.{declared.call.FencedCall.FencedCall, declared.call.FencedAnswer.FencedAnswer, Fencing.Fenced, Fencing.fenced_replay, FencedLaws.AreFencedCalls}
use Rattle.ckpt_durable.specs.Crashes.{AreEvents, Committed, Event, Life, Made, lives, started, world}

-- Makes: `make` gave a number.
-- Commits: `commit` returned these answers.
-- FailsToMake: `make` gave the journal back, or the process ended in it. Then n of the calls that were not synced were found, as many as
-- there are at most, and `recover` began again.
-- Ends: the same of `commit`, and of a process that ended at any other moment.
pub data Operation : Type 0 where
  Makes : FencedCall → Operation
  Commits : List (FencedCall × FencedAnswer) → Operation
  FailsToMake : FencedCall → ℕ → Operation
  Ends : ℕ → Operation

-- what `recover` gives for a journal that has these calls
abbrev pub recovered : Fenced → List FencedCall → List FencedCall → Life
recovered m kept loose = record { kept = kept; loose = loose; now = fenced_replay m (kept ++ loose); waiting = [] }

-- What the clauses of these functions say: a life before, and one after.
abbrev pub Performs : Fenced → Life → Operation → Life → Type 0
Performs m l (Makes call) k = k ≡ lives m l (Made call)
Performs m l (Commits answers) k = (k ≡ lives m l Committed) × (answers ≡ l.waiting)
Performs m l (FailsToMake call n) k = (loose : List FencedCall) × ((loose ≡ l.loose) ⊎ (loose ≡ l.loose ++ call ∷ [])) × (k ≡ recovered m l.kept (take n loose))
Performs m l (Ends n) k = k ≡ recovered m l.kept (take n l.loose)

abbrev pub Performed : Fenced → Life → List Operation → Life → Type 0
Performed m l [] k = l ≡ k
Performed m l (operation ∷ operations) k = (next : Life) × Performs m l operation next × Performed m next operations k

-- all answers that `commit` returned
abbrev pub returned : List Operation → List (FencedCall × FencedAnswer)
returned [] = []
returned (Makes call ∷ operations) = returned operations
returned (Commits answers ∷ operations) = answers ++ returned operations
returned (FailsToMake call n ∷ operations) = returned operations
returned (Ends n ∷ operations) = returned operations

-- all calls that `make` was asked for, but those for which memory ran out, which change nothing
abbrev pub asked : List Operation → List FencedCall
asked [] = []
asked (Makes call ∷ operations) = call ∷ asked operations
asked (Commits answers ∷ operations) = asked operations
asked (FailsToMake call n ∷ operations) = call ∷ asked operations
asked (Ends n ∷ operations) = asked operations

-- So if callers are told what `commit` returns, and nothing else, all laws of crashes hold of the program: its lives, what callers were
-- told, and its calls are those of some list of events.
abbrev pub IsAWorld : Fenced → List Operation → Life → Type 0
IsAWorld m operations last =
    Performed m (started m).life operations last
    → (events : List Event)
    × (world m events ≡ record { life = last; told = returned operations; made = asked operations })
    × (AreFencedCalls (asked operations) → AreEvents events)
