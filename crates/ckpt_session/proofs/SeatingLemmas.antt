-- What lines enter, one part after the other.
use Rattle.ckpt_session.proofs.Names.{◌≡◌, ℕ, List, [], ◌∷◌, ◌++◌, refl, sym, ap, subst, ◌∙◌, append_assoc, append-nil, Some, Ok, Result, All-append, All-cons, All-nil, Call, Show, Entry}
use Rattle.ckpt_session.proofs.Names.{MOST_SEATS, State, History, entered, SeatsBelow, LineFault, Line, Asks, EntersAll, EntersFor, Enters, Staged, by_line, entries_after}
use Rattle.ckpt_lines.specs.declared.line.Line.TheVariants as line

abbrev IsShow : ℕ → Entry → Type 0
IsShow id e = e ≡ by_line (Show id)

pub asks_none : (old new : List Entry) (id : ℕ) → new ≡ old → Asks old new id
asks_none old new id e = record { asked = []; new_is = e ∙ sym (append-nil old); are = All-nil (IsShow id) }

pub asks_once : (old new : History) (id : ℕ) → new ≡ entered old MOST_SEATS (Show id) → Asks old.entries new.entries id
asks_once old new id e = record {
  asked = by_line (Show id) ∷ [];
  new_is = ap (λ (h : History). h.entries) e;
  are = All-cons (IsShow id) (by_line (Show id)) [] refl (All-nil (IsShow id));
}

pub asks_then : (old mid new : List Entry) (id : ℕ) → Asks old mid id → Asks mid new id → Asks old new id
asks_then old mid new id first second = record {
  asked = first.asked ++ second.asked;
  new_is = second.new_is ∙ ap (λ (es : List Entry). es ++ second.asked) first.new_is ∙ append_assoc old first.asked second.asked;
  are = All-append (IsShow id) first.asked second.asked first.are second.are;
}

-- an `all` line that only asked
pub all_asked : (old new : List Entry) (id threads : ℕ) → Asks old new id → EntersAll old new id threads
all_asked old new id threads asks = record { before = new; asks_before = asks; shared = []; seats = tt; asks_after = asks_none (new ++ []) new id (sym (append-nil new)) }

pub all_none : (old new : List Entry) (id threads : ℕ) → new ≡ old → EntersAll old new id threads
all_none old new id threads e = all_asked old new id threads (asks_none old new id e)

-- one that its threads took part in
pub all_shared : (old mid new shared : List Entry) (id threads : ℕ) → mid ≡ old ++ shared → SeatsBelow threads shared → Asks mid new id → EntersAll old new id threads
all_shared old mid new shared id threads e seats asks = record {
  before = old;
  asks_before = asks_none old old id refl;
  shared = shared;
  seats = seats;
  asks_after = subst (λ (es : List Entry). Asks es new id) e asks;
}

pub all_after : (old mid new : List Entry) (id threads : ℕ) → Asks old mid id → EntersAll mid new id threads → EntersAll old new id threads
all_after old mid new id threads asks all = record {
  before = all.before;
  asks_before = asks_then old mid all.before id asks all.asks_before;
  shared = all.shared;
  seats = all.seats;
  asks_after = all.asks_after;
}

-- a line that is read as a call
pub enters_call : (read : Result Line LineFault) (call : Call) (old : Staged) (new : List Entry) → read ≡ Ok (line.Call call) → new ≡ entries_after old call → EntersFor read old new
unfolding EntersFor Enters
enters_call read call old new says e = rw says e

-- the call of a line is entered
pub entered_by_line : (old : Staged) (m : State) (book new : History) (call : Call) → old.scene.core ≡ Some m → old.entries ≡ book.entries → new ≡ entered book MOST_SEATS call
    → new.entries ≡ entries_after old call
entered_by_line old m book new call core entries made = rw (core, entries) (ap (λ (h : History). h.entries) made)
