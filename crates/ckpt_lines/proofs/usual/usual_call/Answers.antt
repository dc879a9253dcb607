-- Answers the goals of `usual_call`.
use Rattle.ckpt_lines.proofs.{◌≡◌, ◌≤◌, length, true, Ok, sym, ap, ◌∙◌, rules, arith, strip_carriage_return, LONGEST_LINE, BeginsWith, is_usual, words_of, common_steps, reads_usual}
use Rattle.ckpt_lines.proofs.Names.{only_number}
use Rattle.ckpt_lines.specs.declared.line.Line.TheVariants as said
use Rattle.ckpt_lines.proofs.usual.usual_call.Goals as goal

pub returns-clause-call : goal.returns-clause-call
returns-clause-call c =
    let short : length c.args.line.now ≤ LONGEST_LINE = omega arith in
    let begin : BeginsWith (strip_carriage_return c.args.line.now) c.in_ok-keyword.keyword c.in_ok-keyword.rest.now = search rules in
    let usual : is_usual c.in_ok-keyword.keyword ≡ true = grind (arith, common_steps) in
    let only : only_number (words_of c.in_ok-keyword.rest.now) ≡ Ok c.in_ok-number.number = grind rules in
    reads_usual c.args.line.now c.in_ok-keyword.keyword c.in_ok-keyword.rest.now c.in_ok-number.number short begin usual only
    ∙ ap (λ call. Ok (said.Call call)) (sym c.number_call.ensures)
