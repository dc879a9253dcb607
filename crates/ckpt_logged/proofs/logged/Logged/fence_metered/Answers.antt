-- Answers the goals of `Logged::fence_metered`.
use Rattle.ckpt_logged.proofs.Names.{◌≡◌, [], ◌∷◌, ◌++◌, rules, None, fence_fault, Fence}
use Rattle.ckpt_logged.proofs.Entering.{entered, fenced_as}
use Rattle.ckpt_logged.proofs.logged.Logged.fence_metered.Goals as goal

pub invariant_of-self-2 : goal.invariant_of-self-2
invariant_of-self-2 c =
    let pushed : c.push-2.new.self ≡ c.self.inside.events ++ Fence c.args.first_name ∷ [] = search rules in
    let none : fence_fault c.self.inside.machine c.args.first_name ≡ None = search rules in
    entered c.self.inside.machine c.fence_metered.new.self c.self.inside.begin.value c.self.inside.events c.push-2.new.self (Fence c.args.first_name) c.self.invariant tt
    (fenced_as c.self.inside.machine c.fence_metered.new.self c.args.first_name c.in_ok-fence_metered.ensures.done none) pushed
