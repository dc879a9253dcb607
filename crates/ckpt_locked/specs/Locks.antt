-- What contracts see of a lock and its passes.
use Rattle.std.specs.Prelude.{◌≡◌, ℕ, zero, suc, ◌+◌, ◌^◌, ◌<◌, List, [], ◌∷◌, ◌++◌, length, drop, Option, None, Some, All}
use Rattle.atomic_table.specs.Seated.{TableId}
use Rattle.ckpt_ids.specs.declared.call.Call.{Call}
use Rattle.ckpt_ids.specs.declared.reply.Answer.{Answer}
use Rattle.ckpt_locked.specs.declared.book.Entry.{Entry}
use Rattle.ckpt_locked.specs.declared.limits.TheConstants.{TICKETS_END}
use Rattle.ckpt_locked.specs.declared.view.Base.{Base}
use Rattle.ckpt_locked.specs.declared.view.Claim.{Claim}
use Rattle.ckpt_locked.specs.Books.{History, entered, answer_to}
use Rattle.ckpt_locked.specs.Seats.{entry, calls_by, StartsWith, SeatsBelow}
use Rattle.ckpt_locked.specs.Turns.{Sat, kept, idle, serving}

-- which lock it is, the book that it was made with, and its number of seats
pub record Lock : Type 0 where
  pub table_id : TableId
  pub base : Base

-- a pass: its lock, its seat, the entries since the lock was made that it has seen, and its own calls
pub record Hand : Type 0 where
  pub lock : Lock
  pub seat : ℕ
  pub later : List Entry
  pub own : List Call

-- the log of the book that the lock was made with
abbrev pub prior : Hand → List Entry
prior h = h.lock.base.book.entries

-- the log of the book as the pass has seen it
abbrev pub seen : Hand → List Entry
seen h = prior h ++ h.later

abbrev pub hand : TableId → Claim → Hand
hand id c = record { lock = record { table_id = id; base = c.base }; seat = c.number; later = c.later; own = c.own }

-- a seat between two calls
abbrev pub IsIdle : Sat → ℕ → ℕ → Type 0
IsIdle m number calls =
    (m ≡ (idle m.0.mine, [])) × (m.0.mine.number ≡ number) × (length m.0.mine.own ≡ calls)
    × (calls_by number m.0.mine.later ≡ m.0.mine.own)

-- the table has four words and sixty-four perches, and one slot
abbrev pub IsTurns : TableId → Type 0
IsTurns id = (id.words ≡ 68) × (id.slots ≡ 1)

-- the seat has its turn with this ticket, and the book is out of its slot
abbrev pub IsOut : Sat → ℕ → Type 0
IsOut m t = (t < TICKETS_END) × (m ≡ (serving m.0.mine t m.0.found, (0, None) ∷ []))

-- the seat has its turn with this ticket, and this is the book in its slot
abbrev pub HasBook : Sat → ℕ → History → Type 0
HasBook m t book = (t < TICKETS_END) × (m ≡ (serving m.0.mine t m.0.found, (0, Some book) ∷ []))

-- what the seat has found, and then this call of its own
abbrev pub found_with : Sat → ℕ → Call → List Entry
found_with m number call = m.0.found ++ entry number call ∷ []

-- the seat has its turn, and had this claim
abbrev pub CameTo : Claim → ℕ → Sat → Type 0
CameTo c t m =
    HasBook m t (kept m.0.mine.base m.0.found) × (m.0.mine ≡ c)
    × StartsWith m.0.found c.later × (calls_by c.number m.0.found ≡ c.own) × SeatsBelow c.base.seats m.0.found

-- the slot has the book with this call, which had this answer
abbrev pub Entered : History → ℕ → Call → Option History → Answer → Type 0
Entered book number call slot answer =
    (slot ≡ Some (entered book number call)) × (answer ≡ answer_to book call) × (length book.entries + 1 < 2 ^ 64)

-- the seat made this call on the book, and got this answer
abbrev pub Asked : Sat → ℕ → ℕ → Call → Sat → Answer → Type 0
Asked before t number call after answer =
    (after.0 ≡ before.0) × (answer ≡ answer_to (kept before.0.mine.base before.0.found) call)
    × HasBook after t (kept after.0.mine.base (found_with after number call)) × (length after.0.found + 1 < 2 ^ 64)

-- a new pass
abbrev pub newcomer : Lock → ℕ → Hand
newcomer lock k = record { lock = lock; seat = k; later = []; own = [] }

abbrev pub newcomers : Lock → ℕ → List Hand
newcomers lock zero = []
newcomers lock (suc n) = newcomers lock n ++ newcomer lock n ∷ []

abbrev pub lock_of : History → ℕ → TableId → Lock
lock_of book seats id = record { table_id = id; base = record { book = book; seats = seats } }

-- the book of the lock with this log
abbrev pub book_with : Lock → List Entry → History
book_with lock entries = record lock.base.book { entries = entries }

-- A call was made. What is seen after it begins with what was seen before, and ends with the call. Of the entries since
-- the lock was made, those with this seat are the pass's own calls.
pub record Made (old : Hand) (call : Call) (new : Hand) (answer : Answer) : Type 0 where
  pub same : (new.lock ≡ old.lock) × (new.seat ≡ old.seat)
  -- the entries of others since the pass was used last
  pub between : List Entry
  pub seen_is : seen new ≡ (seen old ++ between) ++ entry old.seat call ∷ []
  pub answer_is : answer ≡ answer_to (book_with old.lock (seen old ++ between)) call
  pub own_is : new.own ≡ old.own ++ call ∷ []
  pub all_own : calls_by new.seat new.later ≡ new.own

-- the entries since the lock was made
abbrev pub later_in : Lock → History → List Entry
later_in lock book = drop (length lock.base.book.entries) book.entries

-- the entries begin with those that the pass has seen, and the calls of its seat there are its own
abbrev pub SeenIn : List Entry → Hand → Type 0
SeenIn log h = StartsWith log h.later × (calls_by h.seat log ≡ h.own)

-- the book begins with everything that the pass has seen, and its later calls with the pass's seat are the pass's own
abbrev pub Agrees : Lock → History → Hand → Type 0
Agrees lock book h = StartsWith book.entries (seen h) × (calls_by h.seat (later_in lock book) ≡ h.own)

-- The book that a lock returns. It has the opening that the lock was made with, and its log begins with that book's.
pub record GivenBack (lock : Lock) (book : History) (hands : List Hand) : Type 0 where
  pub book_is : book ≡ kept lock.base (later_in lock book)
  pub seats : SeatsBelow lock.base.seats (later_in lock book)
  pub agree : All (Agrees lock book) hands
