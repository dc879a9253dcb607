-- What a program does with a handle, a group, and a log of its own, by the contracts of the functions that it calls.
use Rattle.std.specs.Prelude.{◌≡◌, ℕ, ◌+◌, true, false, List, [], ◌∷◌, ◌++◌, length, map, set, Some, Result, Ok, ⊤}
use Rattle.ckpt_durable.specs.Groups.{AreTurns, Life, Receipt, Made, Looked, Committed, Imaged, Crashed, Turn, lives, started, world}
use Rattle.ckpt_logged.specs.Events.{Event, IsEvent, event_step}
use Rattle.ckpt_terms.specs.{Machines.core_in, Machines.names_in, declared.machine.Machine.Machine}
use Rattle.relkvanu.specs.{declared.answer.Answer.Answer, declared.asked.Asked.Asked, declared.group.Group.Group, declared.handle.Handle.Handle, Asking.said, Lines.asked_step}
use Rattle.relkvanu.specs.{Lines.said_step, Told.bad_argument}
use Rattle.relkvanu.specs.Groups.{IsRoom, all_told, asked_event, bad_receipt, fresh, is_told, one_more, told_by}

-- Asks: something was made, its entry is appended, and its answer was held: relkvanu_group_make has said so, or relkvanu_group_hold got the
-- answer of another function.
-- Looks: the same of something that was read or refused, or that left the coordinator as it was, for which nothing is appended.
-- Syncs: a sync of all entries has succeeded, and relkvanu_group_synced was called.
-- Images n: the log begins behind its first n synced entries, with an image of the state there.
-- Ends n first: the process has ended, or the group has failed, and another one begins, whose receipts count from `first` on: the handle is opened
-- with the image, and makes what is found. That is all that was synced, and n of the entries behind it, as many as there are at most.
pub data Operation : Type 0 where
  Asks : Event → Answer → Operation
  Looks : Answer → Operation
  Syncs : Operation
  Images : ℕ → Operation
  Ends : ℕ → ℕ → Operation

-- the coordinator and its log, a group, and the buffer of answers
pub record Program : Type 0 where
  pub life : Life
  pub group : Group
  pub held : List Answer

abbrev pub Performs : Program → Operation → Program → Type 0
Performs p (Asks event a) q =
    IsRoom p.group (length p.held) × (q ≡ record { life = lives p.life (Made event); group = one_more p.group; held = set p.held p.group.waiting a })
Performs p (Looks a) q = IsRoom p.group (length p.held) × (q ≡ record { life = lives p.life Looked; group = one_more p.group; held = set p.held p.group.waiting a })
Performs p Syncs q = (p.group.has_failed ≡ false) × (q ≡ record { life = lives p.life Committed; group = all_told p.group; held = p.held })
Performs p (Images n) q = q ≡ record { life = lives p.life (Imaged n); group = p.group; held = p.held }
Performs p (Ends n first) q = (held : List Answer) × (q ≡ record { life = lives p.life (Crashed n); group = fresh first; held = held })

-- the program has this handle open, this group and this buffer of answers
pub record Has (p : Program) (handle : Handle) (group : Group) (held : List Answer) : Type 0 where
  pub state : handle.value ≡ Some (core_in p.life.now)
  pub names : handle.names ≡ names_in p.life.now
  pub counts : p.group ≡ group
  pub answers : p.held ≡ held

-- this holds of each program that has these
abbrev pub IfHas : Handle → Group → List Answer → (Program → Type 0) → Type 0
IfHas handle group held P = (p : Program) → Has p handle group held → P p

-- the program performs this operation, and has these afterwards
abbrev pub Does : Program → Operation → Handle → Group → List Answer → Type 0
Does p operation handle group held = (q : Program) × Performs p operation q × Has q handle group held

-- the handle has the coordinator that this event leaves
abbrev pub IsLeftBy : Event → Program → Handle → Type 0
IsLeftBy event p handle = (handle.value ≡ Some (core_in (event_step p.life.now event))) × (handle.names ≡ names_in (event_step p.life.now event))

-- It holds this answer of another function, which told `result`.
abbrev pub HoldsLook : Group → List Answer → Answer → Answer → Group → List Answer → Type 0
HoldsLook old before answer result new after =
    (p : Program) (h : Handle) → Has p h old before → result.code ≡ 0 → Does p (Looks answer) h new after

-- the same of a call whose entry it appends itself
abbrev pub HoldsAsked : Group → List Answer → Answer → Answer → Group → List Answer → Type 0
HoldsAsked old before answer result new after =
    (p : Program) (was h : Handle) (event : Event) → Has p was old before → IsLeftBy event p h → result.code ≡ 0 → Does p (Asks event answer) h new after

-- It asks for what this line says, which is a call that can be made. What is held is the answer of this call, in the state of before.
abbrev pub AsksByLine : Program → Result Asked Answer → ℕ → List ℕ → Handle → Group → List Answer → Type 0
AsksByLine p made places line handle group held =
    (asked : Asked) × (made ≡ Ok asked) × (said line ≡ Ok asked) × IsEvent (asked_event asked)
    × Does p (Asks (asked_event asked) (asked_step p.life.now places asked).1) handle group held

-- It appends nothing. What is held is the answer that refuses the call, in this state.
abbrev pub LooksAtCall : Program → Result Asked Answer → ℕ → Handle → Group → List Answer → Type 0
LooksAtCall p made places = Does p (Looks (said_step p.life.now places made).1)

-- an answer that was held, and its receipt
abbrev pub Held : Type 0
Held = Answer × Receipt

-- those behind the last sync, those that a sync has covered, and all that this group has held, with its first receipt: each has the next one
pub record Notes : Type 0 where
  pub waiting : List Held
  pub synced : List Held
  pub given : List Held
  pub first : ℕ

abbrev pub one_noted : Notes → Held → Notes
one_noted b h = record { waiting = b.waiting ++ h ∷ []; synced = b.synced; given = b.given ++ h ∷ []; first = b.first }

abbrev pub noted : Life → Notes → Operation → Notes
noted l b (Asks event a) = one_noted b (a, record { state = l.now; entry = event ∷ [] })
noted l b (Looks a) = one_noted b (a, record { state = l.now; entry = [] })
noted l b Syncs = record { waiting = []; synced = b.synced ++ b.waiting; given = b.given; first = b.first }
noted l b (Images n) = b
noted l b (Ends n first) = record { waiting = []; synced = b.synced; given = []; first = first }

abbrev pub Performed : Program → Notes → List Operation → Program → Notes → Type 0
Performed p b [] q c = (p ≡ q) × (b ≡ c)
Performed p b (operation ∷ operations) q c = (next : Program) × Performs p operation next × Performed next (noted p.life b operation) operations q c

-- a program that begins with this coordinator
abbrev pub program : Machine → List Answer → Program
program m held = record { life = (started m).life; group = fresh 0; held = held }

abbrev pub nothing : Notes
nothing = record { waiting = []; synced = []; given = []; first = 0 }

abbrev pub receipts : List Held → List Receipt
receipts held = map (λ h. h.1) held

-- each entry is of a call that can be made, as AsksByLine says of those of relkvanu_group_make
abbrev pub AreAsked : List Operation → Type 0
AreAsked [] = ⊤
AreAsked (Asks event a ∷ operations) = IsEvent event × AreAsked operations
AreAsked (Looks a ∷ operations) = AreAsked operations
AreAsked (Syncs ∷ operations) = AreAsked operations
AreAsked (Images n ∷ operations) = AreAsked operations
AreAsked (Ends n first ∷ operations) = AreAsked operations

-- A receipt tells the answer that was held with it, which a sync has covered.
abbrev pub TellsItsOwn : Program → Notes → ℕ → Type 0
TellsItsOwn p b receipt =
    (h : Held)
    × ((before : List Held) × (after : List Held) × (b.synced ≡ before ++ h ∷ after))
    × ((before : List Held) × (after : List Held) × (b.given ≡ before ++ h ∷ after) × (b.first + length before ≡ receipt))
    × (told_by p.group p.held receipt ≡ h.0)

-- So the program is a list of turns, of which all laws of groups hold. What callers were told there are the receipts that a sync has covered.
-- And by a receipt relkvanu_group_answer tells the answer that was held with it, or nothing.
abbrev pub TellsWhatIsSynced : Machine → List Answer → List Operation → Program → Notes → Type 0
TellsWhatIsSynced m held operations p b =
    Performed (program m held) nothing operations p b
    → ((turns : List Turn) × ((world m turns).life ≡ p.life) × ((world m turns).told ≡ receipts b.synced) × (AreAsked operations → AreTurns turns))
    × ((receipt : ℕ) → p.group.has_failed ≡ false → is_told p.group receipt ≡ true → TellsItsOwn p b receipt)
    × ((receipt : ℕ) → p.group.has_failed ≡ false → is_told p.group receipt ≡ false → told_by p.group p.held receipt ≡ bad_argument bad_receipt)
