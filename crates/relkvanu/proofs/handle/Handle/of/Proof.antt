-- `of` keeps the pointer of the box. The allocator takes no bytes, and there is only one.
use Rattle.relkvanu.proofs.Imports.{List, [], ◌∷◌, ◌++◌, refl, sym, subst, Val, vptr, SProp, ent, emp, id⊢, ftrue, WpFn, ‵, raw, ◌⊛◌, ◌$◌, ◌∵◌, !, qed, by, move, keep, split, fsplit, fjoin}
use Rattle.relkvanu.proofs.Imports.{suffices, fpack, use0, stop, fld, of_opd, no_more, and_then, returns, enter, alloc_all, pass_all, free_all, look_at, get, get_in, sets, agg, sub, whole}
use Rattle.relkvanu.proofs.Imports.{fact, fact_i, tables, yes, RattleType, owns, types_at, plain, block_ptr, nothing, Stays, stay_dropped, walk_of, Goes-dropped, ghosts, proved_at, leaves}
use Rattle.relkvanu.proofs.Imports.{State, Issued, core_in, names_in, IsHeld}
use Rattle.relkvanu.proofs.{BoxWords.Apart, BoxWords.word as pair, BoxWords.word_fits, BoxWords.apart_out, Words.R, Words.boxed, Words.word, Words.handle_in}
use Rattle.relkvanu.proofs.handle.Handle.of.Statement.{statement}
use Rattle.std.specs.contracts.alloc.Global as heap
use Rattle.std.proofs.alloc.Global.TheLaws as heap_laws
use Rattle.std.specs.declared.option.Option.{Option}
use Rattle.std.specs.declared.option.Option.TheVariants.{Some}
use Rattle.relkvanu.specs.contracts.handle.Handle.of as f
use Rattle.relkvanu.proofs.handle.Handle.of.Code as code

pub of_spec : {M : Type 1} → statement M
of_spec 𝓤 𝓛 𝓜 𝓡 wired =
    let H = 𝓛.H in let 𝓣 = tables 𝓤 H 𝓜 𝓡 𝓡.env in let c = f.clauses 𝓛 𝓜.mem 𝓡.returns in let fn = code.function in
    let Z : RattleType = heap.the_row in let LZ = heap_laws.the_row_laws in let A : RattleType = Apart R Z LZ ghosts in
    let hs : Stays f.ended.signature.params f.ended.kept = (stay_dropped (plain (λ _. A)) yes, tt) in
    proved_at 𝓛 f.ended hs c 𝓜 𝓡 (Goes-dropped 𝓛 0 (plain (λ _. A)) yes (λ κs x w. refl), tt)
    f.Key.name fn (code.unfolded 𝓤 H 𝓜 𝓡 wired) (λ z are.
    let d = z.0.3.0 in let Post : Val → SProp 𝓤 = (walk_of 𝓛 f.ended hs c).post z in
    let Run : List Val → SProp 𝓤 = λ ws. WpFn 𝓤 H 𝓣.C 𝓣.Λ fn ws Post in let k : Option R.Denot = Some d.value in
    let had : Option State = Some (core_in d.value.now) in let names : Option Issued = names_in d.value.now in
    qed 𝓛 ((‵ ftrue ⊛ ‵ (owns (types_at f.ended.signature.params z.0.0) z.0.3 z.0.4)) ∷ raw ((c z.0.0 z.0.3).requires z.1) ∷ []) ∵
    split ! $ move ! (1 ∷ []) $ fsplit ! $ apart_out R Z LZ ghosts ! d z.0.4.0 (λ b o v at vs good.
    let w : Val = pair b o v in
    suffices ! (Run (w ∷ [])) (subst (λ (us : List Val). ent 𝓤 (Run (w ∷ [])) (Run us)) (sym (λ i. vs i ++ [])) (id⊢ 𝓤 (Run (w ∷ [])))) $
    enter ! 𝓣.C 𝓣.Λ fn (w ∷ []) Post $ alloc_all ! (λ l. pass_all ! refl (word_fits R Z LZ ghosts b o v good, tt) $
    sets ! (of_opd ! (get_in ! (fld ! refl (stop !)) (sub ! 0 refl (whole !)))) refl (tt, tt) $
    sets ! (of_opd ! (get ! refl)) refl (tt, tt) $
    sets ! (agg ! (and_then ! (get ! refl) (no_more !))) refl (tt, (tt, tt)) $
    fpack ! (IsHeld k had names k) (λ _. boxed (block_ptr b o) d.value) (refl, refl, refl) $ handle_in ! (block_ptr b o) had names k $
    use0 𝓛 (raw (fact 𝓤 (IsHeld k had names k))) (fact_i 𝓤 (IsHeld k had names k) (emp 𝓤) (refl, refl, refl)) $ nothing ! $ nothing ! $ fjoin ! $
    returns ! (look_at ! 0 refl) $ free_all ! refl $ keep ! (5 ∷ 0 ∷ 2 ∷ 1 ∷ []) $
    by ! (leaves 𝓛 f.ended hs c z (word (vptr b o)) (record { at = block_ptr b o; value = had; names = names; past = k }) (tt, tt) (tt, tt)))))
