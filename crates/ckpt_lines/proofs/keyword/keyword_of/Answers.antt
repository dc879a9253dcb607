-- Answers the goals of `keyword_of`.
use Rattle.ckpt_lines.proofs.{◌∙◌, rules, tests, YieldsList-from_slice, find_from_yields_List, bytes_eq, keyword_of, keywords, spelling}
use Rattle.ckpt_lines.proofs.keyword.keyword_of.Goals as goal

pub returns : goal.returns
unfolding keyword_of
returns c =
    let found = find_from_yields_List (λ keyword. bytes_eq (spelling keyword) c.args.word.now) _ _ c.find.result c.find.ensures.ran (YieldsList-from_slice keywords cc)
    (λ x b q k. search (rules, tests)) in
    c.copied.ensures ∙ found
