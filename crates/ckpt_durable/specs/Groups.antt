-- A coordinator, with names or without, whose calls are appended to a device in groups; images that cut its log, and any number of crashes.
use Rattle.std.specs.Prelude.{◌≡◌, ℕ, ◌+◌, ◌<◌, ◌≤◌, true, List, [], ◌∷◌, ◌++◌, take, drop, ⊤}
use Rattle.ckpt_ids.specs.declared.reply.Answer.{Answer}
use Rattle.ckpt_model.specs.State.{IsUnused}
use Rattle.ckpt_terms.specs.{declared.call.FencedAnswer.TheVariants.Reserved, declared.call.FencedCall.FencedCall, declared.call.FencedCall.TheVariants.Reserve}
use Rattle.ckpt_terms.specs.{declared.machine.Machine.Machine, Machines.core_in, TermsImages.machine_settled}
use Rattle.ckpt_terms.specs.declared.call.FencedAnswer.TheVariants as answer
use Rattle.ckpt_terms.specs.declared.machine.Machine.TheVariants as machine
use Rattle.ckpt_terms.specs.Fencing.{Fenced, fenced_step, has_ended, may_be_deleted}
use Rattle.ckpt_logged.specs.Events.{Event, IsEvent, Named, event_step, events_replay, named_as}
use Rattle.ckpt_durable.specs.Crashes.{IsWithin}

-- Made: something is asked, and appended to the device. Its answer waits.
-- Looked: something is read, or refused. Nothing is appended. Its answer waits too.
-- Committed: a sync succeeds; then each answer that waits may be told.
-- Imaged n: the log on the device begins behind its first n synced entries, with an image of the state there: it has the fetched files in
-- ascending order.
-- Crashed n: all that was synced is found, and n of the entries behind it, as many as there are at most. Recovery replays them.
-- An append or a sync that fails is no turn: after it the next turn is a crash. An image that fails is none either, and may be tried again.
pub data Turn : Type 0 where
  Made : Event → Turn
  Looked : Turn
  Committed : Turn
  Imaged : ℕ → Turn
  Crashed : ℕ → Turn

-- the state in which something was answered, and what was appended for it: one entry or none
pub record Receipt : Type 0 where
  pub state : Machine
  pub entry : List Event

-- what a coordinator and its device have between two crashes
pub record Life : Type 0 where
  -- on the device: the state that its log begins with, what is synced, and behind it what a crash may cut
  pub begin : Machine
  pub kept : List Event
  pub loose : List Event
  -- in memory: the coordinator, and what waits for a sync
  pub now : Machine
  pub waiting : List Receipt

abbrev pub lives : Life → Turn → Life
lives l (Made event) = record {
  begin = l.begin;
  kept = l.kept;
  loose = l.loose ++ event ∷ [];
  now = event_step l.now event;
  waiting = l.waiting ++ record { state = l.now; entry = event ∷ [] } ∷ [];
}
lives l Looked = record { begin = l.begin; kept = l.kept; loose = l.loose; now = l.now; waiting = l.waiting ++ record { state = l.now; entry = [] } ∷ [] }
lives l Committed = record { begin = l.begin; kept = l.kept ++ l.loose; loose = []; now = l.now; waiting = [] }
lives l (Imaged n) = record { begin = machine_settled (events_replay l.begin (take n l.kept)); kept = drop n l.kept; loose = l.loose; now = l.now; waiting = l.waiting }
lives l (Crashed n) = record { begin = l.begin; kept = l.kept; loose = take n l.loose; now = events_replay l.begin (l.kept ++ take n l.loose); waiting = [] }

-- with the entries that images stand for, what callers were told and what was asked, since the first start and through all crashes
pub record World : Type 0 where
  pub life : Life
  pub cut : List Event
  pub told : List Receipt
  pub made : List Event

-- an opening, or the state of an image
abbrev pub started : Machine → World
started m = record { life = record { begin = m; kept = []; loose = []; now = m; waiting = [] }; cut = []; told = []; made = [] }

abbrev pub happens : World → Turn → World
happens w (Made event) = record { life = lives w.life (Made event); cut = w.cut; told = w.told; made = w.made ++ event ∷ [] }
happens w Looked = record { life = lives w.life Looked; cut = w.cut; told = w.told; made = w.made }
happens w Committed = record { life = lives w.life Committed; cut = w.cut; told = w.told ++ w.life.waiting; made = w.made }
happens w (Imaged n) = record { life = lives w.life (Imaged n); cut = w.cut ++ take n w.life.kept; told = w.told; made = w.made }
happens w (Crashed n) = record { life = lives w.life (Crashed n); cut = w.cut; told = w.told; made = w.made }

abbrev pub goes_on : World → List Turn → World
goes_on w [] = w
goes_on w (turn ∷ turns) = goes_on (happens w turn) turns

abbrev pub world : Machine → List Turn → World
world m turns = goes_on (started m) turns

-- all that was synced, with what images stand for
abbrev pub synced : World → List Event
synced w = w.cut ++ w.life.kept

-- Each receipt is of a place of this list, in order: its state is the replay of what stands before that place, as far as `seen` shows it, and its
-- entry stands there.
abbrev pub StandAs : (Machine → Machine) → Machine → List Event → List Receipt → Type 0
StandAs seen m events [] = ⊤
StandAs seen m events (r ∷ rs) =
    (before : List Event) × (after : List Event)
    × (events ≡ before ++ (r.entry ++ after))
    × (seen r.state ≡ seen (events_replay m before))
    × StandAs seen (events_replay (events_replay m before) r.entry) after rs

-- At each moment, so after each crash: the log on the device begins with the state of what images stand for. The coordinator is its replay. Each
-- receipt that was told is of a place of what was synced, in order. There is no entry that was not asked for.
pub record IsDurableAs (seen : Machine → Machine) (m : Machine) (w : World) : Type 0 where
  pub begin : seen w.life.begin ≡ seen (events_replay m w.cut)
  pub recovers : seen w.life.now ≡ seen (events_replay w.life.begin (w.life.kept ++ w.life.loose))
  pub now : seen w.life.now ≡ seen (events_replay m (synced w ++ w.life.loose))
  pub told : StandAs seen m (synced w) w.told
  pub made : IsWithin (synced w ++ w.life.loose) w.made

-- all but the order of the fetched files, which no answer shows
abbrev pub IsDurable : Machine → World → Type 0
IsDurable = IsDurableAs machine_settled

-- Without images that order is the same too.
abbrev pub HaveNoImage : List Turn → Type 0
HaveNoImage [] = ⊤
HaveNoImage (Imaged n ∷ turns) = ⊥
HaveNoImage (turn ∷ turns) = HaveNoImage turns

abbrev pub IsExact : Machine → List Turn → Type 0
IsExact m turns = HaveNoImage turns → IsDurableAs (λ k. k) m (world m turns)

-- What was synced stays, as the first part, whatever happens.
abbrev pub KeepsAll : World → List Turn → Type 0
KeepsAll w later = (more : List Event) × (synced (goes_on w later) ≡ synced w ++ more)

abbrev pub AreTurns : List Turn → Type 0
AreTurns [] = ⊤
AreTurns (Made event ∷ turns) = IsEvent event × AreTurns turns
AreTurns (Looked ∷ turns) = AreTurns turns
AreTurns (Committed ∷ turns) = AreTurns turns
AreTurns (Imaged n ∷ turns) = AreTurns turns
AreTurns (Crashed n ∷ turns) = AreTurns turns

-- A file that might be deleted at some place of what was synced is used by no live record, then or later, through all crashes.
abbrev pub UsesNoneAgain : Machine → List Turn → List Turn → Type 0
UsesNoneAgain m turns later =
    (before after : List Event) (n : Fenced) (f : ℕ)
    → synced (world m turns) ≡ before ++ after
    → events_replay m before ≡ machine.Fenced n
    → may_be_deleted n f ≡ true
    → IsUnused (core_in (goes_on (world m turns) later).life.now) f

-- So what was read may be told with its receipt: a file that might be deleted in the state of a receipt that was told is used by no live
-- record, then or later, through all crashes.
abbrev pub ReadsAreSafe : Machine → List Turn → List Turn → Type 0
ReadsAreSafe m turns later =
    (xs ys : List Receipt) (r : Receipt) (n : Fenced) (f : ℕ)
    → (world m turns).told ≡ xs ++ r ∷ ys
    → r.state ≡ machine.Fenced n
    → may_be_deleted n f ≡ true
    → IsUnused (core_in (goes_on (world m turns) later).life.now) f

-- this receipt is of a reservation of so many names, from this one on
pub record Reserves (r : Receipt) (first count : ℕ) : Type 0 where
  pub names : Fenced
  pub term : ℕ
  pub state : r.state ≡ machine.Fenced names
  pub entry : r.entry ≡ Named (Reserve term count) ∷ []
  pub told : (fenced_step names (Reserve term count)).1 ≡ Reserved first

-- Names that were told are told to nobody else: of two reservations that were told, the later one's names begin behind the last of the
-- earlier one's.
abbrev pub GivesNamesOnce : Machine → List Turn → Type 0
GivesNamesOnce m turns =
    (xs ys zs : List Receipt) (r late : Receipt) (first count next more : ℕ)
    → (world m turns).told ≡ xs ++ (r ∷ (ys ++ late ∷ zs))
    → Reserves r first count
    → Reserves late next more
    → first + count ≤ next

-- this receipt is of a call that was answered with this term: where there are names, of one without a term too
pub record AnswersIn (r : Receipt) (call : FencedCall) (term : ℕ) (its : Answer) : Type 0 where
  pub names : Fenced
  pub event : Event
  pub state : r.state ≡ machine.Fenced names
  pub entry : r.entry ≡ event ∷ []
  pub asked : named_as event ≡ call ∷ []
  pub told : (fenced_step names call).1 ≡ answer.Made term its

-- A term that was told is not begun again: of two answers with a term that were told, the later one has no lower term, and a higher one if it is that
-- of an accepted restore, advance or cancel.
abbrev pub BeginsTermsOnce : Machine → List Turn → Type 0
BeginsTermsOnce m turns =
    (xs ys zs : List Receipt) (r late : Receipt) (call after : FencedCall) (term next : ℕ) (its more : Answer)
    → (world m turns).told ≡ xs ++ (r ∷ (ys ++ late ∷ zs))
    → AnswersIn r call term its
    → AnswersIn late after next more
    → (term ≤ next) × (has_ended after (answer.Made next more) ≡ true → term < next)
