-- `closed` writes the null pointer, which owns nothing.
use Rattle.relkvanu.proofs.Imports.{◌≡◌, [], ◌∷◌, refl, lit<, Val, SProp, emp, ftrue, ‵, raw, ◌⊛◌, ◌$◌, ◌∵◌, !, qed, by, keep, fpack, split, use0, lit, no_more, and_then, returns, enter}
use Rattle.relkvanu.proofs.Imports.{alloc_all, pass_all, free_all, look_at, sets, agg, fact, fact_i, tables, owns, types_at, null_ptr, ptr_val, nothing, walk_of, proved_at, leaves, State}
use Rattle.relkvanu.proofs.Imports.{Issued, IsHeld}
use Rattle.relkvanu.proofs.{Words.R, Words.word, Words.handle_in, handle.Handle.closed.Statement.statement}
use Rattle.std.specs.declared.option.Option.{Option}
use Rattle.std.specs.declared.option.Option.TheVariants.{None}
use Rattle.relkvanu.specs.contracts.handle.Handle.closed as f
use Rattle.relkvanu.proofs.handle.Handle.closed.Code as code

pub closed_spec : {M : Type 1} → statement M
closed_spec 𝓤 𝓛 𝓜 𝓡 wired =
    let H = 𝓛.H in let 𝓣 = tables 𝓤 H 𝓜 𝓡 𝓡.env in let c = f.clauses 𝓛 𝓜.mem 𝓡.returns in
    let fn = code.function in let w : Val = word (ptr_val null_ptr) in let v : Option State = None in let n : Option Issued = None in let k : Option R.Denot = None in
    proved_at 𝓛 f.ended tt c 𝓜 𝓡 tt f.Key.name fn (code.unfolded 𝓤 H 𝓜 𝓡 wired) (λ z are.
    let Post : Val → SProp 𝓤 = (walk_of 𝓛 f.ended tt c).post z in
    qed 𝓛 ((‵ ftrue ⊛ ‵ (owns (types_at f.ended.signature.params z.0.0) z.0.3 z.0.4)) ∷ raw ((c z.0.0 z.0.3).requires z.1) ∷ []) ∵
    split ! $ enter ! 𝓣.C 𝓣.Λ fn [] Post $ alloc_all ! (λ l. pass_all ! refl tt $
    sets ! (agg ! (and_then ! (lit ! tt) (no_more !))) refl (tt, (record { fits = lit< tt }, tt)) $
    nothing ! $ fpack ! ((null_ptr ≡ null_ptr) × IsHeld k v n k) (λ _. ftrue) (refl, (refl, refl, refl)) $ handle_in ! null_ptr v n k $
    use0 𝓛 (raw (fact 𝓤 (IsHeld k v n k))) (fact_i 𝓤 (IsHeld k v n k) (emp 𝓤) (refl, refl, refl)) $
    returns ! (look_at ! 0 refl) $ free_all ! refl $ keep ! (2 ∷ 3 ∷ 1 ∷ 0 ∷ []) $
    by ! (leaves 𝓛 f.ended tt c z w (record { at = null_ptr; value = v; names = n; past = k }) tt tt)))
