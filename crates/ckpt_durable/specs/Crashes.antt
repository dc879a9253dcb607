-- A coordinator with names whose calls are appended to a device, and any number of crashes.
use Rattle.std.specs.Prelude.{◌≡◌, ℕ, ◌+◌, ◌<◌, ◌≤◌, Bool, true, List, [], ◌∷◌, ◌++◌, take, ◌⊎◌, ⊤}
use Rattle.ckpt_model.specs.State.{IsUnused}
use Rattle.ckpt_terms.specs.{declared.call.FencedCall.FencedCall, declared.call.FencedAnswer.FencedAnswer, declared.call.FencedCall.TheVariants.Reserve, FencedLaws.IsFencedCall}
use Rattle.ckpt_terms.specs.declared.call.FencedAnswer.TheVariants as answer
use Rattle.ckpt_ids.specs.declared.reply.Answer.{Answer}
use Rattle.ckpt_terms.specs.Fencing.{Fenced, fenced_step, fenced_replay, has_ended, may_be_deleted}

-- Made: a call is made, and appended to the device. Its answer waits.
-- Committed: a sync succeeds; then each answer that waits is told.
-- Crashed n: all that was synced is found, and n of the calls behind it, as many as there are at most. Recovery replays them.
-- An append or a sync that fails is no event: after it the next event is a crash. A call whose append failed was made, and may be found or not.
pub data Event : Type 0 where
  Made : FencedCall → Event
  Committed : Event
  Crashed : ℕ → Event

-- what a coordinator and its device have between two crashes
pub record Life : Type 0 where
  -- on the device: synced, and behind it what a crash may cut
  pub kept : List FencedCall
  pub loose : List FencedCall
  -- in memory: the coordinator, and the answers that wait for a sync
  pub now : Fenced
  pub waiting : List (FencedCall × FencedAnswer)

abbrev pub lives : Fenced → Life → Event → Life
lives m w (Made call) = record {
  kept = w.kept;
  loose = w.loose ++ call ∷ [];
  now = (fenced_step w.now call).0;
  waiting = w.waiting ++ (call, (fenced_step w.now call).1) ∷ [];
}
lives m w Committed = record { kept = w.kept ++ w.loose; loose = []; now = w.now; waiting = [] }
lives m w (Crashed n) = record { kept = w.kept; loose = take n w.loose; now = fenced_replay m (w.kept ++ take n w.loose); waiting = [] }

-- what recovery leaves: the calls that were found are made, of which these were synced and these not
abbrev pub recovered : Fenced → List FencedCall → List FencedCall → List FencedCall → Life
recovered m found kept loose = record { kept = kept; loose = loose; now = fenced_replay m found; waiting = [] }

-- it is what a crash leaves of every life, if such calls are on the device after it
abbrev pub IsLeftByCrash : Fenced → List FencedCall → List FencedCall → Life → Type 0
IsLeftByCrash m kept loose after = (l : Life) (n : ℕ) → kept ≡ l.kept → loose ≡ take n l.loose → after ≡ lives m l (Crashed n)

-- with what callers were told and the calls that were made, since the first start and through all crashes
pub record World : Type 0 where
  pub life : Life
  pub told : List (FencedCall × FencedAnswer)
  pub made : List FencedCall

abbrev pub started : Fenced → World
started m = record { life = record { kept = []; loose = []; now = m; waiting = [] }; told = []; made = [] }

abbrev pub happens : Fenced → World → Event → World
happens m w (Made call) = record { life = lives m w.life (Made call); told = w.told; made = w.made ++ call ∷ [] }
happens m w Committed = record { life = lives m w.life Committed; told = w.told ++ w.life.waiting; made = w.made }
happens m w (Crashed n) = record { life = lives m w.life (Crashed n); told = w.told; made = w.made }

abbrev pub goes_on : Fenced → World → List Event → World
goes_on m w [] = w
goes_on m w (event ∷ events) = goes_on m (happens m w event) events

abbrev pub world : Fenced → List Event → World
world m events = goes_on m (started m) events

abbrev pub on_device : Life → List FencedCall
on_device l = l.kept ++ l.loose

-- some of the items, in their order
abbrev pub IsWithin : {X : Type 0} → List X → List X → Type 0
IsWithin [] ys = ⊤
IsWithin (x ∷ xs) [] = ⊥
IsWithin (x ∷ xs) (y ∷ ys) = ((x ≡ y) × IsWithin xs ys) ⊎ IsWithin (x ∷ xs) ys

-- each call of a list with its answer there
abbrev pub along : Fenced → List FencedCall → List (FencedCall × FencedAnswer)
along m [] = []
along m (call ∷ calls) = (call, (fenced_step m call).1) ∷ along (fenced_step m call).0 calls

-- At each moment, so after each crash: the coordinator is the replay of what is on the device. In the synced part of that stands
-- each call that was told, in order, and its answer there is the one that was told. There is no call that was not made.
pub record IsDurable (m : Fenced) (w : World) : Type 0 where
  pub now : w.life.now ≡ fenced_replay m (on_device w.life)
  pub told : IsWithin w.told (along m w.life.kept)
  pub made : IsWithin (on_device w.life) w.made

-- What was synced stays, as the first part, whatever happens.
abbrev pub KeepsAll : Fenced → World → List Event → Type 0
KeepsAll m w later = (more : List FencedCall) × ((goes_on m w later).life.kept ≡ w.life.kept ++ more)

abbrev pub AreEvents : List Event → Type 0
AreEvents [] = ⊤
AreEvents (Made call ∷ events) = IsFencedCall call × AreEvents events
AreEvents (Committed ∷ events) = AreEvents events
AreEvents (Crashed n ∷ events) = AreEvents events

-- A file that might be deleted at some place of the synced list is used by no live record, then or later, through all crashes.
abbrev pub UsesNoneAgain : Fenced → List Event → List Event → Type 0
UsesNoneAgain m events later =
    (before after : List FencedCall) (f : ℕ)
    → (world m events).life.kept ≡ before ++ after
    → may_be_deleted (fenced_replay m before) f ≡ true
    → IsUnused (goes_on m (world m events) later).life.now.core f

-- A file that may be deleted while no call waits for a sync is used by no live record, then or later, through all crashes. So what is read
-- of the coordinator then may be told.
abbrev pub ReadsAreSafe : Fenced → List Event → List Event → Type 0
ReadsAreSafe m events later =
    let now : Life = (world m events).life in
    (f : ℕ)
    → now.loose ≡ []
    → may_be_deleted now.now f ≡ true
    → IsUnused (goes_on m (world m events) later).life.now.core f

-- Names that were told are told to nobody else: of two reservations that were told, the later one's names begin behind the earlier one's.
abbrev pub GivesNamesOnce : Fenced → List Event → Type 0
GivesNamesOnce m events =
    (xs ys zs : List (FencedCall × FencedAnswer)) (term count first late more next : ℕ)
    → (world m events).told ≡ xs ++ ((Reserve term count, answer.Reserved first) ∷ (ys ++ (Reserve late more, answer.Reserved next) ∷ zs))
    → first + count ≤ next

-- A term that was told is not begun again: of two answers with a term that were told, the later one has no lower term, and a higher
-- one if it is that of an accepted restore or cancel.
abbrev pub BeginsTermsOnce : Fenced → List Event → Type 0
BeginsTermsOnce m events =
    (xs ys zs : List (FencedCall × FencedAnswer)) (call late : FencedCall) (term next : ℕ) (its more : Answer)
    → (world m events).told ≡ xs ++ ((call, answer.Made term its) ∷ (ys ++ (late, answer.Made next more) ∷ zs))
    → (term ≤ next) × (has_ended late (answer.Made next more) ≡ true → term < next)

-- what holds of the code's values too
pub record IsLife (m : Fenced) (l : Life) : Type 0 where
  pub now : l.now ≡ fenced_replay m (on_device l)
  pub waiting : IsWithin l.waiting (along (fenced_replay m l.kept) l.loose)

-- and if what was made is known to be synced, it is
pub record IsSoundly (m : Fenced) (is_synced : Bool) (l : Life) : Type 0 where
  pub life : IsLife m l
  pub synced : is_synced ≡ true → l.loose ≡ []

-- To a clause a durable coordinator is the state that its journal begins with, its life, whether what was made is known to be synced, and how
-- often a call of the journal has failed.
pub record Durably : Type 0 where
  pub begin : Fenced
  pub life : Life
  pub is_synced : Bool
  pub faults : ℕ
