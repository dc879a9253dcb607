-- The rule of a lock's table. Word 0 is the number of entries since the lock was made, word 1 the next ticket, word 2
-- the ticket that is served, and word 3 the next seat. The other words are perches, on which waiting seats sleep. The
-- slot has the book.
use Rattle.std.specs.Prelude.{◌≡◌, ◌≢◌, ℕ, ◌+◌, ◌<◌, ◌≤◌, ◌⊎◌, true, false, if◌then◌else◌, List, [], ◌∷◌, ◌++◌, length, drop, Option, Some, None}
use mathlib.Core.Option.{some}
use lib.ListN.{get_elem?}
use Rattle.atomic_table.specs.Table.{State, Me, Step}
use Rattle.ckpt_ids.specs.declared.call.Call.{Call}
use Rattle.ckpt_locked.specs.declared.book.Entry.{Entry}
use Rattle.ckpt_locked.specs.declared.limits.TheConstants.{MOST_SEATS, TICKETS_END}
use Rattle.ckpt_locked.specs.declared.view.Base.{Base}
use Rattle.ckpt_locked.specs.declared.view.Claim.{Claim}
use Rattle.ckpt_locked.specs.declared.view.Key.{Key}
use Rattle.ckpt_locked.specs.declared.view.View.{View}
use Rattle.ckpt_locked.specs.Books.{History}
use Rattle.ckpt_locked.specs.Seats.{calls_by, StartsWith, SeatsBelow}

abbrev pub base_of : Key → Base
base_of key = record { book = key.book.value; seats = key.seats }

-- the book after these entries
abbrev pub kept : Base → List Entry → History
kept base log = record base.book { entries = base.book.entries ++ log }

abbrev pub claim : Base → ℕ → List Entry → List Call → Claim
claim base number later own = record { base = base; number = number; later = later; own = own }

-- the value if nothing is claimed
abbrev pub no_book : History
no_book = record {
  opening = record {
    config = record { interval = 0; pause = 0; at_once = 0; timeout = 0; tolerable = 0; retained = 0; keep_on_cancel = false };
    shape = [];
    start = 0;
    first = 0;
  };
  entries = [];
  keep = 0;
}

abbrev pub no_claim : Claim
no_claim = claim (record { book = no_book; seats = 0 }) 0 [] []

-- the five states of a seat, and the state of a seat that is used up
abbrev pub idle : Claim → View
idle c = record {
  live = true;
  numbered = true;
  mine = c;
  queued = false;
  ticket = 0;
  turn = false;
  found = [];
  claims = false;
  other = no_claim;
}

abbrev pub fresh : Base → View
fresh base = record (idle (claim base 0 [] [])) { numbered = false }

abbrev pub waiting : Claim → ℕ → View
waiting c t = record (idle c) { queued = true; ticket = t }

abbrev pub serving : Claim → ℕ → List Entry → View
serving c t log = record (waiting c t) { turn = true; found = log }

abbrev pub showing : Claim → ℕ → List Entry → Claim → View
showing c t log d = record (serving c t log) { claims = true; other = d }

abbrev pub spent : View
spent = record (idle no_claim) { live = false; numbered = false }

-- it has seen a prefix of the history, and its calls are all those of its number there
pub record Claimed (base : Base) (log : List Entry) (c : Claim) : Type 0 where
  pub base_is : c.base ≡ base
  pub seen : StartsWith log c.later
  pub own : calls_by c.number log ≡ c.own

-- what the rule says of the view at one place; owner and holder give the place of a number and of a ticket
pub record Fits (base : Base) (log : List Entry) (tickets served given : ℕ) (owner holder : ℕ → ℕ) (place : ℕ) (v : View) : Type 0 where
  pub lives : v.live ≡ true → v.mine.base ≡ base
  pub number : v.numbered ≡ true → (owner v.mine.number ≡ place) × (v.mine.number < given) × Claimed base log v.mine
  pub queue : v.queued ≡ true → (v.numbered ≡ true) × (holder v.ticket ≡ place) × (served ≤ v.ticket) × (v.ticket < tickets)
  pub turn : v.turn ≡ true → (v.queued ≡ true) × (v.ticket ≡ served) × (v.found ≡ log)
  pub other : v.claims ≡ true → (v.turn ≡ true) × (owner v.other.number ≡ place) × (v.other.number < given) × Claimed base log v.other

abbrev pub total : {A : Type 0} → (A → ℕ) → List A → ℕ
total f [] = 0
total f (x ∷ xs) = f x + total f xs

abbrev pub in_line : View → ℕ
in_line v = if v.numbered then (if v.queued then 1 else 0) else 0

abbrev pub has_number : View → ℕ
has_number v = if v.numbered then 1 else 0

-- a seat knows that it is its turn
abbrev pub Busy : List View → Type 0
Busy views = (place : ℕ) × (v : View) × (get_elem? views place ≡ some v) × (v.turn ≡ true)

-- what holds for the table between any two steps; `log` is the history since the lock was made
pub record Orderly (base : Base) (s : State (Option History) View) : Type 0 where
  pub log : List Entry
  pub tickets : ℕ
  pub served : ℕ
  pub given : ℕ
  pub perches : List ℕ
  pub owner : ℕ → ℕ
  pub holder : ℕ → ℕ
  pub words : s.words ≡ length log ∷ tickets ∷ served ∷ given ∷ perches
  pub few : (given ≤ base.seats) × (base.seats ≤ MOST_SEATS)
  pub early : served ≤ TICKETS_END
  pub line_length : total in_line s.views + served ≡ tickets
  pub numbers : total has_number s.views ≤ given
  pub seats : SeatsBelow given log
  pub views : (place : ℕ) (v : View) → get_elem? s.views place ≡ some v → Fits base log tickets served given owner holder place v
  -- the book is in its slot, or with the seat that has the turn
  pub slot : (get_elem? s.homes 0 ≡ some (some (Some (kept base log)))) ⊎ Busy s.views

abbrev pub Sat : Type 0
Sat = Me (Option History) View

-- What a step of the table does to the seat that makes it: of the step, what the seat knew and held, the number found or stored, and what
-- the seat knows and holds then.
abbrev pub Play : Type 1
Play = Step (Option History) → Sat → ℕ → Sat → Type 0

-- a compare-exchange of the number
abbrev pub numbered : Play
numbered st m r n = (r ≡ st.first → n ≡ (idle (claim m.0.mine.base r [] []), m.1)) × (r ≢ st.first → n ≡ m)

abbrev pub drawn : Play
drawn st m r n = n ≡ (waiting m.0.mine r, m.1)

-- the turn has come: the seat has found the whole history, and holds the book
abbrev pub Called : Claim → ℕ → Sat → Type 0
Called c t n =
    (log : List Entry) × (n ≡ (serving c t log, (0, Some (kept c.base log)) ∷ []))
    × StartsWith log c.later × (calls_by c.number log ≡ c.own) × SeatsBelow c.base.seats log

abbrev pub awaited : Play
awaited st m r n = (r ≡ m.0.ticket → Called m.0.mine m.0.ticket n) × (r ≢ m.0.ticket → n ≡ m)

abbrev pub entries_in : List (ℕ × Option History) → List Entry
entries_in [] = []
entries_in ((k, None) ∷ xs) = []
entries_in ((k, Some h) ∷ xs) = h.entries

-- the claim once its call is the last of these entries
abbrev pub grown : Claim → List Entry → Claim
grown c log = claim c.base c.number log (calls_by c.number log)

-- the seat holds the book with its call
abbrev pub committed : Play
committed st m r n =
    let log = drop (length m.0.mine.base.book.entries) (entries_in m.1) in
    n ≡ (serving (grown m.0.mine log) m.0.ticket log, m.1)

abbrev pub passed : Play
passed st m r n = n ≡ (idle m.0.mine, [])

-- one perch changed, and the seat knows what it knew
abbrev pub stirred : Play
stirred st m r n = n ≡ m

-- the other pass saw a prefix of what this one has found, and its calls are all those of its number there
abbrev pub compared : Play
compared st m r n =
    (n ≡ (serving m.0.mine m.0.ticket m.0.found, m.1)) × (m.0.other.base ≡ m.0.mine.base)
    × StartsWith m.0.found m.0.other.later × (calls_by m.0.other.number m.0.found ≡ m.0.other.own)
