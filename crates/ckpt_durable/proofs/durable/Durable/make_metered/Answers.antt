-- Answers the goals of `Durable::make_metered`.
use Rattle.ckpt_durable.proofs.Names.{◌≡◌, ◌∙◌, ◌++◌, ◌∷◌, [], List, true, ap, ap₂, refl, sym, both_ways, FencedCall, FencedAnswer, Fenced, fenced_step, Life}
use Rattle.ckpt_durable.proofs.Worlds.{made_life}
use Rattle.ckpt_durable.proofs.durable.Durable.make_metered.Goals as goal

pub invariant_of-next : goal.invariant_of-next
invariant_of-next g c =
    let l : Life = record { kept = g.J.Journal.kept c.self.inside.journal; loose = g.J.Journal.loose c.self.inside.journal; now = c.self.inside.terms; waiting = c.self.inside.waiting.items } in
    let k : Life = record { kept = g.J.Journal.kept c.append.new.self; loose = g.J.Journal.loose c.append.new.self; now = c.apply_metered.new.self; waiting = c.push_reserved.new.self.items } in
    let done = c.in-Ok.ensures.done in
    let both : (c.in-Ok.answer) ≡ (fenced_step l.now c.args.call.now).1 = ap (λ (x : Fenced × FencedAnswer). x.1) (sym done) in
    record {
      life = made_life c.self.inside.begin.value l k c.args.call.now c.self.invariant.life c.append.ensures.kept c.in-Ok-append.ensures.appended (ap (λ (x : Fenced × FencedAnswer). x.0) (sym done))
          (c.push_reserved.ensures.items ∙ ap₂ (λ (ws : List (FencedCall × FencedAnswer)) (w : FencedCall × FencedAnswer). ws ++ w ∷ []) c.reserve.ensures.items (c.of.ensures ∙ ap (λ (a : FencedAnswer). (c.args.call.now, a)) both));
      synced = λ e. absurd (both_ways true (sym e) refl);
    }
