-- Answers the goals of `Locked::new`.
use Rattle.ckpt_locked.proofs.{History, List, Option, Some, [], ap, arith, starts_as, ◌++◌, ◌∙◌, ◌∷◌, ◌≡◌}
use Rattle.ckpt_locked.proofs.lock.Locked.new.Goals as goal

pub new-requires : goal.new-requires
new-requires g c =
    let empty : c.reserve-else-is_err.new.self.items ≡ [] = c.reserve-else-is_err.ensures.items ∙ c.new-slots.ensures.items in
    let one : c.push_reserved.new.self.items ≡ Some c.args.book ∷ [] = c.push_reserved.ensures.items ∙ ap (λ (l : List (Option History)). l ++ Some c.args.book ∷ []) empty in
    starts_as c.of.result.value c.args.book c.args.seats _ _ c.of.ensures one (omega arith)
