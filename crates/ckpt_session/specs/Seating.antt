-- The entries of a script's book: which calls a line enters, and with which seats.
use Rattle.std.specs.Prelude.{◌≡◌, ℕ, List, [], ◌∷◌, ◌++◌, All, if◌then◌else◌, None, is_some, Result, Ok, Err}
use Rattle.ckpt_ids.specs.declared.call.Call.{Call}
use Rattle.ckpt_ids.specs.declared.call.Call.TheVariants.{Show}
use Rattle.ckpt_locked.specs.declared.book.Entry.{Entry}
use Rattle.ckpt_locked.specs.declared.limits.TheConstants.{MOST_SEATS}
use Rattle.ckpt_locked.specs.Seats.{SeatsBelow}
use Rattle.ckpt_lines.specs.declared.line.Line.{Line}
use Rattle.ckpt_lines.specs.declared.line.Line.TheVariants as line
use Rattle.ckpt_lines.specs.declared.fault.LineFault.{LineFault}
use Rattle.ckpt_session.specs.Sessions.{Scene, opening_scene}

-- what contracts see of a session: what its script has set so far, and the entries of its book
pub record Staged : Type 0 where
  pub scene : Scene
  -- none before a `start` was accepted
  pub entries : List Entry

abbrev pub opening_stage : Staged
opening_stage = record { scene = opening_scene; entries = [] }

-- the session lost its book
abbrev pub given_up : Staged → Staged
given_up old = record { scene = record old.scene { core = None }; entries = [] }

-- a call that a line makes itself: no thread has this seat
abbrev pub by_line : Call → Entry
by_line call = record { seat = MOST_SEATS; call = call }

-- the entries after the call of a line, which is made once the script has started
abbrev pub entries_after : Staged → Call → List Entry
entries_after old call = if is_some old.scene.core then old.entries ++ by_line call ∷ [] else old.entries

-- The line asked for the record with this number, if it made a call at all.
pub record Asks (old new : List Entry) (id : ℕ) : Type 0 where
  pub asked : List Entry
  pub new_is : new ≡ old ++ asked
  pub are : All (λ e. e ≡ by_line (Show id)) asked

-- An `all` line asks for its record before and after the calls of its threads, which have the seats below their number.
pub record EntersAll (old new : List Entry) (id threads : ℕ) : Type 0 where
  pub before : List Entry
  pub asks_before : Asks old before id
  pub shared : List Entry
  pub seats : SeatsBelow threads shared
  pub asks_after : Asks (before ++ shared) new id

-- what a line enters
unfoldable pub Enters : Line → Staged → List Entry → Type 0
Enters (line.Call call) old new = new ≡ entries_after old call
Enters (line.All now id threads first) old new = EntersAll old.entries new id threads
Enters line old new = new ≡ old.entries

-- a line with a fault makes no call
unfoldable pub EntersFor : Result Line LineFault → Staged → List Entry → Type 0
EntersFor (Ok line) old new = Enters line old new
EntersFor (Err why) old new = new ≡ old.entries
