-- Answers the goals of `is_in_part`.
use Rattle.ckpt_registry.proofs.{◌≡◌, ◌<◌, ltb, sym, ◌∙◌, ap, arith, between, is_ok, ltb-true, ltb-false, lt-ltb, times, times-between, times-from_search}
use Rattle.ckpt_registry.proofs.record_parts.is_in_part.Goals as goal

pub returns-then-is_ok : goal.returns-then-is_ok
returns-then-is_ok c =
    let cut = c.args.cut.now in
    let files = c.args.files.now in
    let file = c.args.file in
    let fresh = between c.args.start cut.middle files in
    let found : is_ok c.binary_search.result ≡ ltb 0 (times file fresh) = times-from_search fresh file c.binary_search.result c.requires.fresh c.binary_search.ensures.position in
    let here : 0 < times file fresh = ltb-true 0 (times file fresh) (sym found ∙ sym c.is_ok.ensures.value ∙ c.if-is_ok.true) in
    c.if-is_ok.true ∙ sym (lt-ltb 0 (times file (between c.args.start cut.end files)) (omega (arith, here, times-between file c.args.start cut files c.requires)))

pub returns-else-is_ok : goal.returns-else-is_ok
returns-else-is_ok c =
    let cut = c.args.cut.now in
    let files = c.args.files.now in
    let file = c.args.file in
    let fresh = between c.args.start cut.middle files in
    let reused = between cut.middle cut.end files in
    let first : is_ok c.binary_search.result ≡ ltb 0 (times file fresh) = times-from_search fresh file c.binary_search.result c.requires.fresh c.binary_search.ensures.position in
    let second : is_ok c.binary_search-else-is_ok.result ≡ ltb 0 (times file reused) =
    times-from_search reused file c.binary_search-else-is_ok.result c.requires.reused c.binary_search-else-is_ok.ensures.position in
    let none = ltb-false 0 (times file fresh) (sym first ∙ sym c.is_ok.ensures.value ∙ c.if-is_ok.false) in
    let same : times file reused ≡ times file (between c.args.start cut.end files) = omega (arith, none, times-between file c.args.start cut files c.requires) in
    c.is_ok-else-is_ok.ensures.value ∙ second ∙ ap (ltb 0) same
