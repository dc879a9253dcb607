-- The entries of a book by their seats.
use Rattle.std.specs.Prelude.{◌≡◌, ℕ, ◌<◌, ◌==◌, if◌then◌else◌, List, [], ◌∷◌, ◌++◌}
use Rattle.ckpt_ids.specs.declared.call.Call.{Call}
use Rattle.ckpt_ids.specs.declared.reply.Answer.{Answer}
use Rattle.ckpt_locked.specs.declared.book.Entry.{Entry}
use Rattle.ckpt_locked.specs.Books.{History, answer_to, entered}

abbrev pub entry : ℕ → Call → Entry
entry seat call = record { seat = seat; call = call }

-- the calls with this seat, in order
abbrev pub calls_by : ℕ → List Entry → List Call
calls_by seat [] = []
calls_by seat (e ∷ es) = if e.seat == seat then e.call ∷ calls_by seat es else calls_by seat es

-- their answers, if the entries come after that history, in this order
abbrev pub answers_by : ℕ → History → List Entry → List Answer
answers_by seat h [] = []
answers_by seat h (e ∷ es) =
    let rest = answers_by seat (entered h e.seat e.call) es in
    if e.seat == seat then answer_to h e.call ∷ rest else rest

abbrev pub StartsWith : List Entry → List Entry → Type 0
StartsWith log part = (rest : List Entry) × (log ≡ part ++ rest)

-- each entry's seat is below this
abbrev pub SeatsBelow : ℕ → List Entry → Type 0
SeatsBelow n [] = Unit {0}
SeatsBelow n (e ∷ es) = (e.seat < n) × SeatsBelow n es
