-- The machine value of a box that was taken apart, and what it owns. Assumes `Logic`.
use Rattle.relkvanu.proofs.Imports.{◌≡◌, ℕ, List, [], ◌∷◌, ◌++◌, refl, subst, T, Ura, impl, tnil, dnil, Val, vptr, vstruct, vcons, vnil, of_list, has_ty, WT, never, fst∗, Logic, sem, Item}
use Rattle.relkvanu.proofs.Imports.{Goal, Seq, Step, ‵, ◌$◌, move, fsplit, fjoin, fpick, fpack, feq_i, feq_l, RattleType, Valss, RawPtr, lone, Ptr, block_ptr, null_ptr, ptr_val, in_a_block}
use Rattle.relkvanu.proofs.Imports.{nothing, layout, Laws, within, shape, Ghosts, Al, handle_tells, Good, box_owns, and_tt}
use mathlib.Core.Bool.{◌&&◌, true}
use mir.Raw.{raw as bare}
use types.Kit.{step, drop}
use Rattle.relkvanu.specs.contracts.raw_box.RawBox as raw_box

-- a pointer, and the allocator's machine value
abbrev pub word : ℕ → ℕ → Val → Val
word b o v = vstruct (vcons (vptr b o) (vcons v vnil))

module _ (R Z : RattleType) (L : Laws Z) (g : Ghosts Z.Denot) where
  abbrev pub Apart : RattleType
  Apart = raw_box.the_row R Z g

  abbrev allocator : Al
  allocator = record { row = Z; laws = L; g = g; d = impl [] tnil dnil; drops = impl [] tnil dnil }

  pub word_fits : (b o : ℕ) (v : Val) → Good (layout Z) v → T (has_ty (layout Z) v && true) × WT (word b o v)
  word_fits b o v good = (and_tt (has_ty (layout Z) v) good.0, (tt, (good.1, tt)))

  module _ {M : Type 1} {𝓤 : Ura M} {𝓛 : Logic 𝓤} {K : Type 0} {Γ : List (Item 𝓤)} {G : Goal 𝓤 𝓛.H} where
    -- the box, and the allocator
    pub apart_out : K → (d : Apart.Denot) (vs : List Val)
        → ((b o : ℕ) (v : Val) → d.at ≡ block_ptr b o → vs ≡ word b o v ∷ [] → Good (layout Z) v
        → Seq K 𝓛 (‵ (box_owns (g.dealloc_token d.alloc) R (block_ptr b o) d.value) ∷ ‵ (Z.own_val d.alloc (v ∷ [])) ∷ Γ) G)
        → Seq K 𝓛 (‵ (Apart.own_val d vs) ∷ Γ) G
    apart_out t d vs go =
        let Holds : Ptr → base.Fml.Fml = λ p. box_owns (g.dealloc_token d.alloc) R p d.value in
        let not_null = fst∗ 𝓤 (never 𝓤) (sem 𝓛 (g.dealloc_token d.alloc (bare (lone R.mir)) null_ptr)) in
        fsplit t $ fpick t (λ fields. fsplit t $ feq_l t (λ whole. fsplit t $ feq_l t (λ pointer. fsplit t $
        handle_tells allocator t d.alloc fields.1.0 (λ v handle good. move t (1 ∷ []) $ drop t $ move t (1 ∷ []) $
        in_a_block t d.at Holds not_null (λ b o at. go b o v at
        (subst (λ (p : Ptr). vs ≡ vstruct (of_list (ptr_val p ∷ v ∷ [])) ∷ []) at
        (subst (λ (ws : List Val). vs ≡ vstruct (of_list (ptr_val d.at ∷ (ws ++ []))) ∷ []) handle
        (subst (λ (ps : List Val). vs ≡ vstruct (of_list (ps ++ (fields.1.0 ++ []))) ∷ []) pointer whole))) good)))))

    pub apart_in : K → (b o : ℕ) (v : Val) (a : Z.Denot) (x : R.Denot)
        → Step K 𝓛 (‵ (Apart.own_val (record { at = block_ptr b o; alloc = a; value = x }) (word b o v ∷ [])) ∷ Γ) G
        (‵ (box_owns (g.dealloc_token a) R (block_ptr b o) x) ∷ ‵ (Z.own_val a (v ∷ [])) ∷ Γ) G
    apart_in t b o v a x = step (λ s.
        nothing t $ move t (2 ∷ 0 ∷ []) $ fjoin t $ feq_i t (List Val) (vptr b o ∷ []) (vptr b o ∷ []) refl $ fjoin t $
        feq_i t (List Val) (word b o v ∷ []) (word b o v ∷ []) refl $ fjoin t $
        fpack t (Valss (RawPtr ∷ Z ∷ [])) (within (shape (raw_box.the_type R Z g)) (block_ptr b o, (a, tt)) (word b o v ∷ []))
        (vptr b o ∷ [], (v ∷ [], tt)) $ fjoin t $ s)
