-- How the index of an outbox gives the place of a file. Only proofs and the type's invariant read this.
use Rattle.std.specs.Prelude.{◌≡◌, ℕ, ◌+◌, ◌≤◌, ◌<◌, ◌%◌, ◌^◌, Bool, false, List, ◌++◌, length, get_or, if◌then◌else◌, Option, Some, is_some, nat_eq}
use Rattle.std.specs.HashMap as hash
use Rattle.std.specs.HashMap.{HashMap, spare}
use Rattle.ckpt_outbox.specs.Queues.{AreDistinct, is_in}

-- the ticket of the file at this place of waiting, if the first has the ticket `front`
abbrev pub ticket : ℕ → ℕ → ℕ
ticket front place = (front + place) % 2 ^ 64

-- each file that waits has the ticket of its place
abbrev pub IsTicketed : (ℕ → Option ℕ) → ℕ → List ℕ → Type 0
IsTicketed tickets front waiting = (place : ℕ) → place < length waiting → tickets (get_or waiting place 0) ≡ Some (ticket front place)

-- whether the file was taken: it has a ticket and does not wait
abbrev pub is_apart : (ℕ → Option ℕ) → List ℕ → ℕ → Bool
is_apart tickets waiting file = if is_in file waiting then false else is_some (tickets file)

-- what is true of the fields of an outbox
pub record IsSound {S : Type 0} (waiting : List ℕ) (front : ℕ) (capacity : ℕ) (taken : List ℕ) (index : HashMap ℕ ℕ S) (room : ℕ) : Type 0 where
  -- no file is in the two queues twice
  pub distinct : AreDistinct (waiting ++ taken)
  -- waiting has room for all of taken, and for what has its place reserved
  pub place_room : length waiting + length taken + room ≤ capacity
  pub index_room : room ≤ spare index
  -- the index has exactly the files of the two queues
  pub known : (file : ℕ) → is_some (hash.get nat_eq index file) ≡ is_in file (waiting ++ taken)
  pub ticketed : IsTicketed (hash.get nat_eq index) front waiting
