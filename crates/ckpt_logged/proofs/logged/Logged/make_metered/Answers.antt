-- Answers the goals of `Logged::make_metered`.
use Rattle.ckpt_logged.proofs.Names.{◌≡◌, true, [], ◌∷◌, ◌++◌, rules, is_ok, Named}
use Rattle.ckpt_logged.proofs.Entering.{entered, made_named}
use Rattle.ckpt_logged.proofs.logged.Logged.make_metered.Goals as goal

pub invariant_of-self : goal.invariant_of-self
invariant_of-self c =
    let pushed : c.push-then-is_ok.new.self ≡ c.self.inside.events ++ Named c.args.call.now ∷ [] = search rules in
    let ok : is_ok c.make_named-made.result ≡ true = search rules in
    entered c.self.inside.machine c.make_named-made.new.machine c.self.inside.begin.value c.self.inside.events c.push-then-is_ok.new.self (Named c.args.call.now) c.self.invariant
    c.make_named-made.ensures.shape (made_named c.self.inside.machine c.make_named-made.new.machine c.args.call.now c.make_named-made.result ok c.make_named-made.ensures.step) pushed
