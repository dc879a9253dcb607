-- What an image has of a state: everything but the order in which files were fetched, which no call returns.
use Rattle.std.specs.Prelude.{◌≡◌, ◌<◌, ◌≤◌, List, ◌++◌, map}
use Rattle.ckpt_ids.specs.declared.limits.TheConstants.{MOMENTS_END, NUMBERS_END}
use Rattle.ckpt_ids.specs.declared.call.Call.{Call}
use Rattle.ckpt_ids.specs.Ascending.{ascending}
use Rattle.ckpt_ids.specs.Records.{Record}
use Rattle.ckpt_rules.specs.Moments.{IsInRange}
use Rattle.ckpt_model.specs.declared.image.Image.{Image}
use Rattle.ckpt_model.specs.declared.image.Saved.{Saved}
use Rattle.ckpt_model.specs.declared.mode.Mode.TheVariants.{Running}
use Rattle.ckpt_model.specs.State.{State}
use Rattle.ckpt_model.specs.Histories.{replay, answers}
use Rattle.ckpt_model.specs.Laws.{CanOpen}
use Rattle.ckpt_model.specs.Soundness.{IsSound}

-- the record that was saved as this
abbrev pub record_in : Saved → Record
record_in s = record {
  id = s.metadata.id;
  kind = s.metadata.kind;
  done = s.metadata.done;
  shape = s.metadata.shape;
  started = s.metadata.started;
  acks = s.metadata.acks;
  pins = s.pins;
}

-- the state of an image
abbrev pub state_in : Image → State
state_in i = record {
  opening = record { config = i.config; shape = i.first_shape; start = i.start; first = i.first };
  shape = i.shape;
  mode = i.mode;
  latest = i.latest;
  due = i.due;
  completed = i.completed;
  failures = i.failures;
  next = i.next;
  base = i.base;
  records = map record_in i.records.items;
  waiting = i.waiting;
  taken = i.taken;
}

-- the state with the fetched files in ascending order
abbrev pub settled : State → State
settled m = record m { taken = ascending m.taken }

-- the two differ in that order alone
abbrev pub AreAlike : State → State → Type 0
AreAlike m n = settled m ≡ settled n

-- both answer these calls in the same way, and are alike after them
pub record GoesOnAs (m n : State) (calls : List Call) : Type 0 where
  pub answers : answers m calls ≡ answers n calls
  pub state : AreAlike (replay m calls) (replay n calls)

-- the clock has room for the moments
abbrev pub HasSoundMoments : State → Type 0
HasSoundMoments m = IsInRange (record { latest = m.latest; due = m.due; completed = m.completed })

-- what is tested of an image before memory is taken: its moments, its numbers and its failures
pub record HasSoundNumbers (m : State) : Type 0 where
  pub moments : HasSoundMoments m
  pub start : m.opening.start < MOMENTS_END
  pub first : 1 ≤ m.opening.first
  pub first_to : m.opening.first < NUMBERS_END
  pub next_from : m.opening.first ≤ m.next
  pub next_to : m.next ≤ NUMBERS_END
  pub failures : m.mode ≡ Running → m.failures ≤ m.opening.config.tolerable

-- A state that an image may have: a coordinator could be opened so, and it is sound, with moments that fit a clock. Each
-- state that a coordinator reaches is such a state, and some are that none reaches: for example, a job has failed over
-- with no failure counted, or was rolled back to a savepoint and has a checkpoint still.
pub record CanHold (m : State) : Type 0 where
  pub can_open : CanOpen m.opening
  pub sound : IsSound m
  pub clock : HasSoundMoments m

-- The image after the first calls of a log, and the calls after it, give what the whole log gives: the same answers,
-- and a state that is alike.
pub record IsCut (m : State) (before after : List Call) : Type 0 where
  pub answers : answers m (before ++ after) ≡ answers m before ++ answers (settled (replay m before)) after
  pub state : AreAlike (replay m (before ++ after)) (replay (settled (replay m before)) after)
