-- What a run of a task does: turn by turn what came to it, as `ckpt_once` has it.
use Rattle.std.specs.Prelude.{◌≡◌, ◌⊎◌, ℕ, Bool, MatchBool, List, [], ◌∷◌, ◌++◌, length, Option, Some, None}
use Rattle.ckpt_align.specs.Histories.{sent, taken}
use Rattle.ckpt_ledger.specs.Ledgers.{Held}
use Rattle.ckpt_once.specs.Programs.{Program, Turn, actions, aligned, moves_in, state}
use Rattle.ckpt_once.specs.Sinks.{Transaction}
use Rattle.ckpt_task.specs.{declared.deed.Deed.Deed, declared.deed.Deed.TheVariants.Came, declared.turn.Next.Next, Saving.Saved, SinkTurns.SinkAt, SinkTurns.after_turn}
use Rattle.ckpt_task.specs.Deeds.{IsPart, Word, Acknowledges, Declines, as_came, came_in, sent_in, taken_in, told_in}
use Rattle.ckpt_task.specs.Turns.{At, abandoned_as, answer_in, cut_of, puts, takes, turned}

-- a task at some moment: what it did until then, and of its snapshots those that were saved, and the records of those that
-- were refused
pub record Around : Type 0 where
  pub task : At
  pub deeds : List Deed
  pub saved : List Saved
  pub refused : List ℕ

abbrev pub around : At → List Deed → List Saved → List ℕ → Around
around m deeds saved refused = record { task = m; deeds = deeds; saved = saved; refused = refused }

-- the task after turns
abbrev pub after_turns : Program → At → List Turn → At
after_turns p m turns = record { state = state p m.state (moves_in m.alignment turns); alignment = aligned m.alignment turns }

-- THE SNAPSHOTS, AND WHAT THE COORDINATOR IS TOLD

pub record Kept : Type 0 where
  pub saved : List Saved
  pub refused : List ℕ
  pub told : List Word

abbrev pub kept_in : Around → Kept
kept_in x = record { saved = x.saved; refused = x.refused; told = told_in x.deeds }

-- The snapshot was saved, and the record is acknowledged.
abbrev pub acknowledged : Saved → Kept → Kept
acknowledged one k = record { saved = one ∷ k.saved; refused = k.refused; told = Acknowledges one.id ∷ k.told }

-- The snapshot was refused, and the record is declined. The snapshot may be there or not.
pub record IsDeclined (one : Saved) (k l : Kept) : Type 0 where
  pub saved : (l.saved ≡ k.saved) ⊎ (l.saved ≡ one ∷ k.saved)
  pub refused : l.refused ≡ one.id ∷ k.refused
  pub told : l.told ≡ Declines one.id ∷ k.told

-- after the cut of a record, at this state and with this held back; or after a record was given up
abbrev pub IsKeptBy : Option ℕ → Option ℕ → ℕ → List Transaction → Kept → Kept → Type 0
IsKeptBy (Some n) o s waiting k l =
    (l ≡ acknowledged (record { id = n; state = s; waiting = waiting }) k) ⊎ IsDeclined (record { id = n; state = s; waiting = waiting }) k l
IsKeptBy None (Some n) s waiting k l = l ≡ record { saved = k.saved; refused = k.refused; told = Declines n ∷ k.told }
IsKeptBy None None s waiting k l = l ≡ k

abbrev pub IsKept : At → List Transaction → Turn → Kept → Kept → Type 0
IsKept m waiting turn k l = IsKeptBy (cut_of m.alignment turn) (abandoned_as (answer_in m.alignment turn)) m.state waiting k l

-- what is held back after turns, which its snapshots have too
abbrev pub Waits : Type 0
Waits = List Turn → List Transaction

abbrev pub AreKept : Program → At → Waits → List Turn → Kept → Kept → Type 0
AreKept p m waits [] k l = k ≡ l
AreKept p m waits (turn ∷ turns) k l = (now : Kept) × AreKept p m waits turns k now × IsKept (after_turns p m turns) (waits (turn ∷ turns)) turn now l

-- a task that is no sink holds nothing back
abbrev pub waits_none : Waits
waits_none turns = []

-- ONE TURN, AND A RUN

pub record HasTurned (p : Program) (waits : Turn → List Transaction) (x y : Around) : Type 0 where
  pub turn : Turn
  pub came : came_in y.deeds ≡ turn ∷ came_in x.deeds
  pub task : y.task ≡ turned p x.task turn
  pub taken_on : (j : ℕ) → taken_in j y.deeds ≡ taken_in j x.deeds ++ takes p x.task turn j
  pub sent_on : (c : ℕ) → sent_in c y.deeds ≡ sent_in c x.deeds ++ puts p x.task turn c
  pub kept : IsKept x.task (waits turn) turn (kept_in x) (kept_in y)

-- A run of n turns: those that came. The task is where they lead in `ckpt_once`. It took from each input, and put on each
-- output, what they take and put there. Each record that it cut is acknowledged if its snapshot was saved, and declined
-- otherwise; each that it gave up is declined.
pub record HasRun (p : Program) (waits : Waits) (n : ℕ) (x y : Around) : Type 0 where
  pub turns : List Turn
  pub count : length turns ≡ n
  pub came : came_in y.deeds ≡ turns ++ came_in x.deeds
  pub task : y.task ≡ after_turns p x.task turns
  pub taken_on : (j : ℕ) → taken_in j y.deeds ≡ taken_in j x.deeds ++ taken j x.task.alignment (actions p x.task.state x.task.alignment turns)
  pub sent_on : (c : ℕ) → sent_in c y.deeds ≡ sent_in c x.deeds ++ sent c x.task.alignment (actions p x.task.state x.task.alignment turns)
  pub kept : AreKept p x.task waits turns (kept_in x) (kept_in y)

-- A FAULT

-- It stopped a turn before the task took it: nothing was done.
pub record WasNoTurn (x z : Around) : Type 0 where
  pub next : Option Next
  pub deeds : z.deeds ≡ as_came next ++ x.deeds
  pub saved : z.saved ≡ x.saved
  pub refused : z.refused ≡ x.refused

-- It stopped a turn that the task had taken: of the deeds of the whole turn some may be left.
pub record WasBegun (p : Program) (waits : Turn → List Transaction) (x z : Around) : Type 0 where
  pub next : Next
  pub all : List Deed
  pub turned : HasTurned p waits x (around z.task all z.saved z.refused)
  pub part : IsPart (Came next ∷ x.deeds) z.deeds all

abbrev pub IsStopped : Program → (Turn → List Transaction) → Around → Around → Type 0
IsStopped p waits x z = WasNoTurn x z ⊎ WasBegun p waits x z

-- A run that a fault stopped: whole turns, as in a run without one, and then at most a part of one more.
pub record HasStopped (p : Program) (waits : Waits) (x z : Around) : Type 0 where
  pub count : ℕ
  pub whole : Around
  pub run : HasRun p waits count x whole
  pub stopped : IsStopped p (λ turn. waits (turn ∷ run.turns)) whole z

-- A SINK

-- its ledger after turns
abbrev pub held_after : Program → SinkAt → List Turn → Held
held_after p m [] = m.held
held_after p m (turn ∷ turns) = after_turn p (record { task = after_turns p m.task turns; held = held_after p m turns; output = m.output; has_failed = m.has_failed }) turn

abbrev pub sink_waits : Program → SinkAt → Waits
sink_waits p m turns = (held_after p m turns).waiting

-- A run of a sink: that of its task, and its ledger is told each write and each cut. Its snapshots have what the ledger
-- holds back.
pub record HasSunk (p : Program) (n : ℕ) (m l : SinkAt) (x y : Around) : Type 0 where
  pub run : HasRun p (sink_waits p m) n x y
  pub held : l.held ≡ held_after p m run.turns
  pub output : l.output ≡ m.output

pub record HasSunkOnce (p : Program) (m l : SinkAt) (x y : Around) : Type 0 where
  pub one : HasTurned p (λ turn. (after_turn p m turn).waiting) x y
  pub held : l.held ≡ after_turn p m one.turn
  pub output : l.output ≡ m.output

-- THE CLAUSES OF THE LOOPS: a run of a task, or one turn if anything came, over channels and snapshots of any types. Their traits
-- tell what they did.

abbrev pub RunsOver : {C S : Type 0} → Program → (C → List Deed) → (S → List Saved) → (S → List ℕ) → At → C → S → At → C → S → ℕ → Type 0
RunsOver p deeds saved refused m c s l d t n = HasRun p waits_none n (around m (deeds c) (saved s) (refused s)) (around l (deeds d) (saved t) (refused t))

abbrev pub TurnsOver : {C S : Type 0} → Program → (C → List Deed) → (S → List Saved) → (S → List ℕ) → At → C → S → At → C → S → Bool → Type 0
TurnsOver p deeds saved refused m c s l d t came =
    let x : Around = around m (deeds c) (saved s) (refused s) in
    let y : Around = around l (deeds d) (saved t) (refused t) in
    MatchBool came (HasTurned p (λ _. []) x y) (y ≡ x)

abbrev pub RunStops : {C S : Type 0} → Program → (C → List Deed) → (S → List Saved) → (S → List ℕ) → At → C → S → At → C → S → Type 0
RunStops p deeds saved refused m c s l d t = HasStopped p waits_none (around m (deeds c) (saved s) (refused s)) (around l (deeds d) (saved t) (refused t))

abbrev pub TurnStops : {C S : Type 0} → Program → (C → List Deed) → (S → List Saved) → (S → List ℕ) → At → C → S → At → C → S → Type 0
TurnStops p deeds saved refused m c s l d t = IsStopped p (λ _. []) (around m (deeds c) (saved s) (refused s)) (around l (deeds d) (saved t) (refused t))

abbrev pub SinksOver : {C S : Type 0} → Program → (C → List Deed) → (S → List Saved) → (S → List ℕ) → SinkAt → C → S → SinkAt → C → S → ℕ → Type 0
SinksOver p deeds saved refused m c s l d t n = HasSunk p n m l (around m.task (deeds c) (saved s) (refused s)) (around l.task (deeds d) (saved t) (refused t))

abbrev pub SinksOnce : {C S : Type 0} → Program → (C → List Deed) → (S → List Saved) → (S → List ℕ) → SinkAt → C → S → SinkAt → C → S → Bool → Type 0
SinksOnce p deeds saved refused m c s l d t came =
    let x : Around = around m.task (deeds c) (saved s) (refused s) in
    let y : Around = around l.task (deeds d) (saved t) (refused t) in
    MatchBool came (HasSunkOnce p m l x y) ((y ≡ x) × (l ≡ m))

abbrev pub SinkStops : {C S : Type 0} → Program → (C → List Deed) → (S → List Saved) → (S → List ℕ) → SinkAt → C → S → SinkAt → C → S → Type 0
SinkStops p deeds saved refused m c s l d t = HasStopped p (sink_waits p m) (around m.task (deeds c) (saved s) (refused s)) (around l.task (deeds d) (saved t) (refused t))

abbrev pub StopsOnce : {C S : Type 0} → Program → (C → List Deed) → (S → List Saved) → (S → List ℕ) → SinkAt → C → S → SinkAt → C → S → Type 0
StopsOnce p deeds saved refused m c s l d t =
    IsStopped p (λ turn. (after_turn p m turn).waiting) (around m.task (deeds c) (saved s) (refused s)) (around l.task (deeds d) (saved t) (refused t))
