-- Answers the goals of `Book::keep_last`.
use Rattle.ckpt_locked.proofs.{kept_keeping}
use Rattle.ckpt_locked.proofs.book.Book.keep_last.Goals as goal

pub invariant_of-self : goal.invariant_of-self
invariant_of-self c =
    rw (c.keep_last.ensures.items) (kept_keeping c.self.inside.first c.self.inside.core c.self.inside.entries.items c.self.inside.entries.keep c.keep_last.new.self.keep c.self.invariant)
