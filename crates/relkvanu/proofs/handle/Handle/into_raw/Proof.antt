-- `into_raw` tests whether the pointer is null. If it is not, it has the box.
use Rattle.relkvanu.proofs.Imports.{◌≡◌, List, [], ◌∷◌, ◌++◌, refl, sym, ap, ◌∙◌, subst, lit<, Val, vptr, vcons, vnil, SProp, ent, emp, id⊢, ftrue, WpFn, ‵, raw, ◌⊛◌, at_ret, ◌$◌, ◌∵◌, !, qed}
use Rattle.relkvanu.proofs.Imports.{by, move, keep, split, fsplit, fjoin, suffices, use0, use1, rewrite, stop, fld, lit, of_opd, bin, no_more, and_then, first, branches, exec, returns, enter}
use Rattle.relkvanu.proofs.Imports.{alloc_all, pass_all, free_all, look_at, get, get_in, sets, sets_last, env, agg, sub, whole, live, fact, fact_i, tables, yes, RattleType, owns, types_at}
use Rattle.relkvanu.proofs.Imports.{type_at, plain, layout, Ptr, block_ptr, null_ptr, ptr_val, tests_null, nothing, Stays, stay_dropped, walk_of, Goes-dropped, after, Good, one, Some-of}
use Rattle.relkvanu.proofs.Imports.{none_of, option_map, ghosts, proved_at, leaves, and_tt, IsHeld}
use Rattle.relkvanu.proofs.{BoxWords.Apart, BoxWords.word as pair, BoxWords.word_fits, BoxWords.apart_in, Words.R, Words.word, Words.handle_out, Words.either}
use Rattle.relkvanu.proofs.handle.Handle.into_raw.Statement.{statement}
use Rattle.std.specs.contracts.alloc.Global as heap
use Rattle.std.proofs.alloc.Global.TheLaws as heap_laws
use Rattle.std.specs.declared.option.Option.{Option}
use Rattle.std.specs.declared.option.Option.TheVariants.{None, Some}
use Rattle.relkvanu.specs.contracts.handle.Handle as handle
use Rattle.relkvanu.specs.contracts.handle.Handle.into_raw as f
use Rattle.relkvanu.proofs.handle.Handle.into_raw.Code as code

pub into_raw_spec : {M : Type 1} → statement M
into_raw_spec 𝓤 𝓛 𝓜 𝓡 wired =
    let H = 𝓛.H in let 𝓣 = tables 𝓤 H 𝓜 𝓡 𝓡.env in let c = f.clauses 𝓛 𝓜.mem 𝓡.returns in let fn = code.function in
    let Z : RattleType = heap.the_row in let LZ = heap_laws.the_row_laws in let A : RattleType = Apart R Z LZ ghosts in let Self : RattleType = handle.the_row in
    let hs : Stays f.ended.signature.params f.ended.kept = (stay_dropped (plain (λ _. Self)) yes, (stay_dropped (plain (λ _. Z)) yes, tt)) in
    proved_at 𝓛 f.ended hs c 𝓜 𝓡 (Goes-dropped 𝓛 0 (plain (λ _. Self)) yes (λ κs x w. refl), (Goes-dropped 𝓛 0 (plain (λ _. Z)) yes (λ κs x w. refl), tt))
    f.Key.name fn (code.unfolded 𝓤 H 𝓜 𝓡 wired) (λ z are.
    let d = z.0.3.0 in let a = z.0.3.1.0 in let Post : Val → SProp 𝓤 = (walk_of 𝓛 f.ended hs c).post z in
    let Run : List Val → SProp 𝓤 = λ ws. WpFn 𝓤 H 𝓣.C 𝓣.Λ fn ws Post in let Out : RattleType = type_at f.ended.signature.result z.0.0 in
    let h = one (layout Z) z.0.4.1.0 ((LZ.lawful 𝓛).typed a z.0.4.1.0 are.1.0) in
    let Says : Option A.Denot → Type 0 = λ r. IsHeld (option_map (λ (machine : A.Denot). machine.value) r) d.value d.names d.past in
    qed 𝓛 ((‵ ftrue ⊛ ‵ (owns (types_at f.ended.signature.params z.0.0) z.0.3 z.0.4)) ∷ raw ((c z.0.0 z.0.3).requires z.1) ∷ []) ∵
    split ! $ move ! (1 ∷ []) $ fsplit ! $ handle_out ! d z.0.4.0 (λ vs. move ! (1 ∷ []) $ fsplit ! $
    rewrite ! 0 (λ (us : List Val). ‵ (Z.own_val a us)) h.1 refl $ move ! (2 ∷ []) $ either ! d.at d.value d.names d.past
    (λ null none. let w : Val = word (ptr_val null_ptr) in let told : z.0.4.0 ≡ w ∷ [] = vs ∙ ap (λ (p : Ptr). word (ptr_val p) ∷ []) null in
    suffices ! (Run (w ∷ h.0 ∷ [])) (subst (λ (us : List Val). ent 𝓤 (Run (w ∷ h.0 ∷ [])) (Run us)) (sym (λ i. told i ++ (h.1 i ++ []))) (id⊢ 𝓤 (Run (w ∷ h.0 ∷ [])))) $
    enter ! 𝓣.C 𝓣.Λ fn (w ∷ h.0 ∷ []) Post $ alloc_all ! (λ l. pass_all ! refl ((tt, (record { fits = lit< tt }, tt)), (h.2, tt)) $ let locals = env fn.locals l in
    sets ! (of_opd ! (get_in ! (fld ! refl (stop !)) (sub ! 0 refl (whole !)))) refl (tt, record { fits = lit< tt }) $
    sets ! (bin ! (get ! refl) (lit ! tt) tt) refl (tt, tt) $ first ! $ branches ! (get ! refl)
    (λ _. sets_last ! (agg ! (and_then ! (lit ! tt) (no_more !))) refl (tt, (record { fits = lit< tt }, tt)) $
    exec ! 𝓣.C 𝓣.Λ locals (after 3 fn.body) (at_ret locals Post) $ sets ! (of_opd ! (get ! refl)) refl (tt, (record { fits = lit< tt }, tt)) $
    use0 𝓛 (‵ (Out.own_val None (live 0 vnil ∷ []))) (none_of 𝓛 A) $
    use0 𝓛 (raw (fact 𝓤 (Says None))) (fact_i 𝓤 (Says None) (emp 𝓤) none) $
    nothing ! $ nothing ! $ fjoin ! $ nothing ! $ fjoin ! $
    returns ! (look_at ! 0 refl) $ free_all ! refl $ keep ! (5 ∷ 0 ∷ 2 ∷ 1 ∷ []) $
    by ! (leaves 𝓛 f.ended hs c z (live 0 vnil) None (tt, (tt, tt)) (tt, (tt, tt)))) (λ wrong. absurd wrong)))
    (λ b o x block some testable. let w : Val = word (vptr b o) in let told : z.0.4.0 ≡ w ∷ [] = vs ∙ ap (λ (p : Ptr). word (ptr_val p) ∷ []) block in
    let made : Val = pair b o h.0 in let typed = word_fits R Z LZ ghosts b o h.0 h.2 in let v₁ : Val = live 1 (vcons made vnil) in
    let r : A.Denot = record { at = block_ptr b o; alloc = a; value = x } in
    let good : Good (layout Out) v₁ = (and_tt _ typed.0, (record { fits = lit< tt }, (typed.1, tt))) in
    suffices ! (Run (w ∷ h.0 ∷ [])) (subst (λ (us : List Val). ent 𝓤 (Run (w ∷ h.0 ∷ [])) (Run us)) (sym (λ i. told i ++ (h.1 i ++ []))) (id⊢ 𝓤 (Run (w ∷ h.0 ∷ [])))) $
    enter ! 𝓣.C 𝓣.Λ fn (w ∷ h.0 ∷ []) Post $ alloc_all ! (λ l. pass_all ! refl ((tt, (tt, tt)), (h.2, tt)) $ let locals = env fn.locals l in
    sets ! (of_opd ! (get_in ! (fld ! refl (stop !)) (sub ! 0 refl (whole !)))) refl (tt, tt) $
    sets ! (bin ! (get ! refl) (lit ! tt) (tests_null (block_ptr b o) testable)) refl (tt, tt) $ first ! $ branches ! (get ! refl)
    (λ wrong. absurd wrong) (λ _. sets ! (of_opd ! (get ! refl)) refl (tt, tt) $
    sets ! (agg ! (and_then ! (get ! refl) (and_then ! (get ! refl) (no_more !)))) refl typed $
    sets_last ! (agg ! (and_then ! (lit ! tt) (and_then ! (get ! refl) (no_more !)))) refl good $
    exec ! 𝓣.C 𝓣.Λ locals (after 3 fn.body) (at_ret locals Post) $ sets ! (of_opd ! (get ! refl)) refl good $
    apart_in R Z LZ ghosts ! b o h.0 a x $
    use1 𝓛 (‵ (Out.own_val (Some r) (v₁ ∷ []))) (Some-of 𝓛 A r made) $
    use0 𝓛 (raw (fact 𝓤 (Says (Some r)))) (fact_i 𝓤 (Says (Some r)) (emp 𝓤) some) $
    nothing ! $ nothing ! $ fjoin ! $ nothing ! $ fjoin ! $
    returns ! (look_at ! 0 refl) $ free_all ! refl $ keep ! (4 ∷ 0 ∷ 2 ∷ 1 ∷ []) $
    by ! (leaves 𝓛 f.ended hs c z v₁ (Some r) (tt, (tt, tt)) (tt, (tt, tt))))))))
