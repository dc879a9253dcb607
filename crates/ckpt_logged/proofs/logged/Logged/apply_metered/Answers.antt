-- Answers the goals of `Logged::apply_metered`.
use Rattle.ckpt_logged.proofs.Names.{◌≡◌, true, [], ◌∷◌, ◌++◌, rules, is_ok, Plain}
use Rattle.ckpt_logged.proofs.Entering.{entered, made_plain}
use Rattle.ckpt_logged.proofs.logged.Logged.apply_metered.Goals as goal

pub invariant_of-self : goal.invariant_of-self
invariant_of-self c =
    let pushed : c.push-then-is_ok.new.self ≡ c.self.inside.events ++ Plain c.args.call.now ∷ [] = search rules in
    let ok : is_ok c.apply_metered-made.result ≡ true = search rules in
    entered c.self.inside.machine c.apply_metered-made.new.self c.self.inside.begin.value c.self.inside.events c.push-then-is_ok.new.self (Plain c.args.call.now) c.self.invariant
    c.recall_call.ensures (made_plain c.self.inside.machine c.apply_metered-made.new.self c.args.call.now c.apply_metered-made.result ok c.apply_metered-made.ensures.done) pushed
