-- Answers the goals of `Names::first_absent`.
use Rattle.ckpt_terms.proofs.Imports.{◌≡◌, ℕ, Bool, false, not, ◌||◌, List, get_or, sym, ap, subst, ◌∙◌, arith, Option, Some, is_some, list_any, take_all, list_any_more, find-none, Span}
use Rattle.ckpt_terms.proofs.Absent.{absent_is, find_first, is_absent}
use Rattle.ckpt_terms.proofs.names.Names.first_absent.Goals as goal

pub returns-in_default : goal.returns-in_default
returns-in_default c =
    let files : List ℕ = c.args.files.now in
    let i : ℕ = c.loop-file.file-index in
    let file : ℕ = c.file-item.result in
    let name : ℕ = c.file.inside.0 in
    let p : ℕ → Bool = is_absent c.args.self.now in
    let at : get_or files i file ≡ name = sym c.file-item.is ∙ sym c.file.view_is in
    let told : p name ≡ not (is_some c.range_near.result) =
    absent_is c.self.inside.spans.items c.deref.result.now c.args.self.now name c.range_near.result c.deref.ensures.value c.self.view_is c.range_near.ensures.some c.range_near.ensures.none in
    sym (find_first p files i file (omega arith) c.loop-file.invariant (ap p at ∙ told ∙ ap (λ (r : Option (ℕ × Span)). not (is_some r)) c.in_default.is) ∙ ap (λ (f : ℕ). Some f) at)

pub loop-file-preserved : goal.loop-file-preserved
loop-file-preserved c =
    let files : List ℕ = c.args.files.now in
    let i : ℕ = c.loop-file.file-index in
    let file : ℕ = c.file-item.result in
    let name : ℕ = c.file.inside.0 in
    let p : ℕ → Bool = is_absent c.args.self.now in
    let at : get_or files i file ≡ name = sym c.file-item.is ∙ sym c.file.view_is in
    let told : p name ≡ not (is_some c.range_near.result) =
    absent_is c.self.inside.spans.items c.deref.result.now c.args.self.now name c.range_near.result c.deref.ensures.value c.self.view_is c.range_near.ensures.some c.range_near.ensures.none in
    list_any_more p files i file (omega arith) ∙ ap (λ (b : Bool). b || p (get_or files i file)) c.loop-file.invariant ∙ ap p at ∙ told ∙ ap (λ (r : Option (ℕ × Span)). not (is_some r)) c.in-Some.is

pub returns : goal.returns
returns c =
    let files : List ℕ = c.args.files.now in
    let p : ℕ → Bool = is_absent c.args.self.now in
    let NoneIn : List ℕ → Type 0 = λ xs. list_any p xs ≡ false in
    sym (find-none p files (subst NoneIn (take_all c.loop-file.file-index files (omega arith)) c.loop-file.invariant))
