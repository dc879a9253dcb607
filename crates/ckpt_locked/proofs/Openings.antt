-- A book that was just opened.
use Rattle.ckpt_locked.proofs.Names.{CanOpen, IsKept, Opening, [], opened, refl, ℕ}
use Rattle.ckpt_locked.specs.Books.{state_of_book}

pub kept_opened : (o : Opening) (keep : ℕ) → CanOpen o → IsKept o.config (opened o) [] keep
unfolding state_of_book
kept_opened o keep can_open = record { history = record { can_open = can_open; are_calls = tt }; is_replay = refl }
