-- Answers the goals of `keyword_of`.
use Rattle.ckpt_term_lines.proofs.Names.{◌∙◌, rules, tests, YieldsList-from_slice, find_from_yields_List, bytes_eq, term_keyword_of, term_keywords, term_spelling}
use Rattle.ckpt_term_lines.proofs.keyword.keyword_of.Goals as goal

pub returns : goal.returns
unfolding term_keyword_of
returns c =
    let found = find_from_yields_List (λ keyword. bytes_eq (term_spelling keyword) c.args.word.now) _ _ c.find.result c.find.ensures.ran (YieldsList-from_slice term_keywords cc)
    (λ x b q k. search (rules, tests)) in
    c.copied.ensures ∙ found
