-- Answers the goals of `pair`.
use Rattle.ckpt_names_image.proofs.Names.{◌≡◌, length, rules, arith}
use Rattle.ckpt_names_image.proofs.Spans.{other_items}
use Rattle.ckpt_names_image.proofs.reading.pair.Goals as goal

pub returns-then-items-ne2 : goal.returns-then-items-ne2
returns-then-items-ne2 c = (search rules, λ _. other_items c.args.items.now (λ (e : length c.args.items.now ≡ 2). omega arith))
