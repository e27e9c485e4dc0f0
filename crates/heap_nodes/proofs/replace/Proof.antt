-- `replace` takes one box out of the row, moves the old value out of it and the new one in, and puts it back.
use Rattle.std.proofs.Common.{◌≡◌, ℕ, List, [], ◌∷◌, ◌++◌, length, get_or, set, length-set, refl, sym, ap, ◌∙◌, subst, Some, IsSome}
use base.Fraction.{full_share}
use mir.Syntax.{a_type, dcons, dnil}
use mir.Val.{vptr, Val}
use mir.MapTy.{inst_fn}
use base.Logic.{SProp, emp}
use base.Fml.{ftrue, fat, flft}
use prog.Wp.{WpFn}
use types.Kit.{‵, raw, ◌⊛◌, prop, at_ret, ◌$◌, ◌∵◌, !, qed, by, move, keep, drop, use0, use1, use2, split, split3, some, given, pick, learn, join, fsplit, fsplit3, fjoin, rewrite, regoal}
use types.Run.{stop, fld, load, look, store, of_opd, assigns, first, blocks, exec, returns, enter}
use types.Part.{sub, whole}
use types.ByLocal.{is, through, get_in, alloc_all, pass_all, free_all, look_at, get, sets, sets_last, env}
use contract.Monad.{fact, fact_i}
use contract.BorrowLft.{◌⊑◌}
use contract.Running.{tables}
use denote.Exit.{yes, no}
use denote.RattleType.{RattleType, owns}
use denote.Memory.{part_at, shares, mem}
use denote.Index.{row, others, takes, puts, place, opens_slice, closes_slice}
use denote.Shadow.{pure_i}
use denote.Signature.{types_at, plain}
use denote.Steps.{nothing, heard}
use denote.Param.{param, bounded}
use denote.Param.Laws.{param_laws}
use denote.RawPtr.{ptr_val, Ptr, block_ptr}
use denote.Slice.{Room, slice_val, mut_slice_at}
use denote.Memory.{lone}
use denote.Triple.Walked.{Stays, stay_dropped, stay_slice, walk_of, Goes-dropped, Goes-slice}
use borrow.Table.OneValue.{part_out, part_in}
use Rattle.core.proofs.alloc.Shapes.{after}
use Rattle.std_alloc.proofs.RcSteps.{word, word-Good}
use Rattle.std_alloc.proofs.BoxSteps.Form as box
use Rattle.std_alloc.proofs.BoxSteps.Steps.{el_out, el_in, el_tells}
use Rattle.std.proofs.raw_atomic.Walks.{proved_at, leaves}
use Rattle.heap_nodes.specs.Owners.{value_at, set_at}
use Rattle.heap_nodes.proofs.Found.{found}
use Rattle.heap_nodes.proofs.Steps.{word_had}
use Rattle.heap_nodes.proofs.Values.{both, Own, owner_out, owner_in}
use Rattle.heap_nodes.specs.contracts.place.NodePtr as N
use Rattle.heap_nodes.specs.contracts.replace.{ended, clauses}
use Rattle.heap_nodes.specs.contracts.replace.Key.{name as #self}
use Rattle.heap_nodes.proofs.replace.Statement.{statement}
use Rattle.heap_nodes.proofs.replace.Code as code

pub replace_spec : {M : Type 1} → statement M
replace_spec 𝓤 𝓛 𝓜 𝓡 wired T A L LA g d dd met glued =
    let H = 𝓛.H in let 𝓣 = tables 𝓤 H 𝓜 𝓡 𝓡.env in
    let E : box.Bx = record { row = T; laws = L; al = record { row = A; laws = LA; g = g; d = d; drops = dd } } in
    let R : RattleType = param 0 T in let Z : RattleType = param 1 A in let LZ = param_laws 1 A LA in let B : RattleType = Own R Z LZ g in let Np : RattleType = N.the_row in
    let args = bounded (a_type ∷ a_type ∷ []) (T, (A, tt)) (dcons d (dcons dd dnil)) in
    let fn = inst_fn args code.function in let En = ended T A g d dd in let c = clauses T A g d dd 𝓛 𝓜.mem 𝓡.returns in
    let hs : Stays En.signature.params En.kept = (stay_slice (0 ∷ []) tt (plain (λ _. B)), (stay_dropped (plain (λ _. Np)) yes, (stay_dropped (plain (λ _. R)) no, tt))) in
    proved_at 𝓛 En hs c 𝓜 𝓡 (Goes-slice 𝓛 3 0 tt (plain (λ _. B)), (Goes-dropped 𝓛 3 (plain (λ _. Np)) yes (λ κs x f. refl), (Goes-dropped 𝓛 3 (plain (λ _. R)) no (λ κs x f. refl), tt)))
    (#self args) fn (code.unfolded 𝓤 H 𝓜 𝓡 wired (T, (A, tt)) d dd) (λ z are.
    let κs = z.0.0 in let qs = z.0.1 in let κ = κs.0 in let xs = z.0.3.0.now in let sb = z.0.3.0.ref_ptr.0 in let so = z.0.3.0.ref_ptr.1 in let γ = z.0.3.0.ghost_name in
    let at = z.0.3.1.0 in let new = z.0.3.1.1.0 in
    let Post : Val → SProp 𝓤 = (walk_of 𝓛 En hs c).post z in
    let Asked : Type 0 = IsSome (value_at at.ptr xs) in
    let more = ‵ (flft κs.1.0 qs.1.0) ⊛ ‵ (flft κs.1.1.0 qs.1.1.0) ⊛ ‵ ftrue in
    let toks = ‵ (flft κ qs.0) ⊛ more in
    qed 𝓛 ((toks ⊛ ‵ (owns (types_at En.signature.params κs) z.0.3 z.0.4)) ∷ (raw (fact 𝓤 (κs.1.0 ⊑ T.lives)) ⊛ raw (fact 𝓤 (κs.1.1.0 ⊑ A.lives)) ⊛ raw (fact 𝓤 Asked)) ∷ []) ∵
    move ! (1 ∷ []) $ split3 ! $ drop ! $ drop ! $ heard ! Asked (λ asked. split ! $ move ! (1 ∷ []) $
    let f = found at.ptr xs asked in let i = f.index in let old = f.box.value in
    let made : B.Denot = record f.box { value = new } in let ys : List B.Denot = set xs i made in let same : length ys ≡ length xs = length-set xs i made in
    let n = place (mem B).size so i in
    fsplit ! $ fsplit3 ! $ drop ! $ move ! (2 ∷ []) $ fsplit ! $ word_had ! at.ptr z.0.4.1.0 (λ ew. fsplit ! $ el_tells E ! new z.0.4.1.1.0 (λ v ev gv.
    move ! (4 ∷ []) $ split ! $ keep ! (4 ∷ 5 ∷ 0 ∷ 2 ∷ 1 ∷ []) $
    regoal ! (λ (us : List Val). prop (WpFn 𝓤 H 𝓣.C 𝓣.Λ fn us Post)) (λ j. are.0.0.0 j ++ (ew j ++ (ev j ++ []))) refl $
    enter ! 𝓣.C 𝓣.Λ fn (slice_val (sb, so) (length xs) ∷ word at.ptr ∷ v ∷ []) Post $
    alloc_all ! (λ l. pass_all ! refl ((tt, (tt, (record { fits = are.0.0.1.0 }, tt))), (word-Good [] at.ptr, (gv, tt))) $ let Ev = env fn.locals l in
    opens_slice ! tt B xs sb so $
    use1 𝓛 (‵ (part_at B full_share (get_or xs i f.box) sb n) ⊛ ‵ (others (shares B) full_share xs i sb so)) (takes (shares B) full_share 𝓛 xs i f.box sb so f.low) $ split ! $
    rewrite ! 0 (λ (x : B.Denot). ‵ (part_at B full_share x sb n)) f.is refl $
    use1 𝓛 (some (λ (w : Val). ‵ (fat full_share (lone B.mir) sb n w) ⊛ ‵ (B.own_val f.box (w ∷ [])))) (part_out 𝓛 B refl full_share f.box sb n) $ pick ! (λ w. split ! $ move ! (1 ∷ []) $
    owner_out R Z LZ g ! f.box (w ∷ []) (λ b o hv e ws fits. fsplit ! $
    let ep : at.ptr ≡ block_ptr b o = sym f.at ∙ e in
    use1 𝓛 (some (λ (u : Val). given (box.Good E u) (‵ (fat full_share (box.τ E) b o u) ⊛ ‵ (box.own E old (u ∷ []))))) (el_out E 𝓛 old b o) $ pick ! (λ u. learn ! (λ gu. split ! $
    -- [the value's cell; what the old value owns; the token; the handle; the box's cell; the other boxes; the open borrow; obs; auth; what the new value owns; the other tokens]
    first ! $ blocks ! $
    sets ! (is ! (of_opd ! (get_in ! (fld ! refl (stop !)) (sub ! 0 refl (whole !)))) (ap ptr_val ep)) refl (tt, tt) $
    sets ! (of_opd ! (load ! (through ! refl (stop !)) (look ! 0 refl))) refl gu $
    sets ! (of_opd ! (get ! refl)) refl gv $
    assigns ! (of_opd ! (get ! refl)) (through ! refl (stop !)) (store ! 0 refl gv) $
    sets_last ! (of_opd ! (get ! refl)) refl gu $
    exec ! 𝓣.C 𝓣.Λ Ev (after 1 fn.body) (at_ret Ev Post) $ sets ! (of_opd ! (get ! refl)) refl gu $
    move ! (0 ∷ 9 ∷ []) $ use2 𝓛 (‵ (part_at R full_share new b o)) (el_in E 𝓛 new b o v) $ move ! (0 ∷ 2 ∷ []) $ fjoin ! $ move ! (0 ∷ 2 ∷ []) $ owner_in R Z LZ g ! b o hv f.box.alloc new $
    rewrite ! 0 (λ (p : Ptr). ‵ (B.own_val (record f.box { at = p; value = new }) (both (vptr b o) hv ∷ []))) (sym e) refl $ rewrite ! 0 (λ (us : List Val). ‵ (B.own_val made us)) (sym ws) refl $ move ! (2 ∷ 0 ∷ []) $ use2 𝓛 (‵ (part_at B full_share made sb n)) (part_in 𝓛 B refl full_share made sb n w) $
    move ! (0 ∷ 2 ∷ []) $ use2 𝓛 (‵ (row B full_share ys sb so)) (puts (shares B) full_share 𝓛 xs i made sb so f.low) $
    -- [the row; what the old value owns; the open borrow; obs; auth; the other tokens]
    move ! (0 ∷ 2 ∷ 3 ∷ 4 ∷ []) $ closes_slice ! tt B xs ys same sb so $
    returns ! (look_at ! 0 refl) $ free_all ! refl $
    fjoin ! $ pure_i ! (mut_slice_at B (record { ref_ptr = (sb, so); ghost_name = γ; now = ys }) z.0.4.0) (tt, (tt, tt)) (are.0.0.0 ∙ ap (λ (k : ℕ). slice_val (sb, so) k ∷ []) (sym same), subst (Room B) (sym same) are.0.0.1) $ fjoin ! $
    nothing ! $ nothing ! $ fjoin ! $ nothing ! $ fjoin ! $ move ! (1 ∷ 0 ∷ []) $ fjoin ! $ move ! (1 ∷ 3 ∷ []) $ join ! $
    use0 𝓛 (raw (fact 𝓤 (ys ≡ set_at at.ptr new xs))) (fact_i 𝓤 (ys ≡ set_at at.ptr new xs) (emp 𝓤) (sym (f.put new))) $
    use0 𝓛 (raw (fact 𝓤 (value_at at.ptr xs ≡ Some old))) (fact_i 𝓤 (value_at at.ptr xs ≡ Some old) (emp 𝓤) f.value) $ join ! $ move ! (1 ∷ 2 ∷ 3 ∷ 0 ∷ []) $
    by ! (leaves 𝓛 En hs c z u old (ys, (tt, (tt, tt))) (same, (tt, (tt, tt)))))))))))))
