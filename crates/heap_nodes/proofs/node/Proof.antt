-- `node` shows the value that the owner at the pointer lends.
use Rattle.std.proofs.Common.{ap, ◌≡◌, ℕ, zero, suc, ◌+◌, ◌<◌, List, [], ◌∷◌, ◌++◌, length, get_or, refl, sym, ◌∙◌, Some, IsSome}
use seplogic.Ra.Ura.{Ura}
use mir.Syntax.{a_type, dcons, dnil}
use mir.Val.{Val, vptr}
use mir.MapTy.{inst_fn}
use native.Mathlib.Nat.{not-suc-le-zero, le_of_suc-le-suc}
use base.Logic.{SProp, ent, never, emp, via, fst∗, snd∗}
use base.Fml.{Lft, Fml, ftrue, flft}
use prog.Wp.{WpFn}
use types.Logic.{Logic, sem}
use types.Kit.{‵, raw, ◌⊛◌, prop, at_ret, ◌$◌, ◌∵◌, !, qed, by, move, drop, use0, use1, split, split3, some, pick, fsplit, fjoin, feq_i, rewrite, regoal}
use types.Run.{stop, fld, of_opd, addr, first, blocks, exec, returns, enter}
use types.Part.{sub, whole}
use types.ByLocal.{is, through, get_in, alloc_all, pass_all, free_all, look_at, get, sets, sets_last, env}
use contract.Monad.{fact, fact_i}
use contract.BorrowLft.{◌⊑◌}
use contract.Running.{tables}
use denote.Exit.{yes}
use denote.RattleType.{RattleType, owns}
use denote.Builtin.{SliceRefOf}
use denote.Memory.{each_shared, shared_of, shared_of, mem}
use denote.Signature.{types_at, plain}
use denote.Opens.{hide, unhide}
use denote.Steps.{nothing, heard}
use denote.Param.{param, bounded}
use denote.RawPtr.{ptr_val, block_ptr, in_a_block}
use denote.Ref.{Bor}
use denote.Slice.{slice_val}
use denote.Struct.Lending.{lent_at}
use denote.Triple.Walked.{Stays, stay_dropped, walk_of, Goes-dropped}
use Rattle.core.proofs.alloc.Shapes.{after}
use Rattle.std_alloc.proofs.RcSteps.{word, word-Good}
use Rattle.std.proofs.raw_atomic.Walks.{proved_at, leaves}
use Rattle.heap_nodes.specs.Owners.{value_at}
use Rattle.heap_nodes.proofs.Found.{found}
use Rattle.heap_nodes.proofs.Steps.{word_had}
use Rattle.heap_nodes.specs.contracts.place.NodePtr as N
use Rattle.heap_nodes.specs.contracts.owner.Owner as C
use Rattle.heap_nodes.specs.contracts.node.{ended, clauses}
use Rattle.heap_nodes.specs.contracts.node.Key.{name as #self}
use Rattle.heap_nodes.proofs.node.Statement.{statement}
use Rattle.heap_nodes.proofs.node.Code as code

-- one element of those that a slice shows
one_seen : {M : Type 1} {𝓤 : Ura M} (𝓛 : Logic 𝓤) {D : Type 0} (c : D → ℕ → ℕ → Lft → Fml) (s : ℕ) (κ : Lft) (xs : List D) (i : ℕ) (d : D) (b o : ℕ) → i < length xs
    → ent 𝓤 (sem 𝓛 (each_shared xs c s b o κ)) (base.Logic.ex 𝓤 (λ (at : ℕ). sem 𝓛 (c (get_or xs i d) b at κ)))
one_seen {𝓤 = 𝓤} 𝓛 c s κ [] i d b o low = absurd (not-suc-le-zero low)
one_seen {𝓤 = 𝓤} 𝓛 c s κ (x ∷ xs) zero d b o low = via 𝓤 _ (fst∗ 𝓤 _ (sem 𝓛 (each_shared xs c s b (o + s) κ))) (base.Logic.ex_i 𝓤 (λ (at : ℕ). sem 𝓛 (c x b at κ)) o)
one_seen {𝓤 = 𝓤} 𝓛 c s κ (x ∷ xs) (suc i) d b o low = via 𝓤 _ (snd∗ 𝓤 (sem 𝓛 (c x b o κ)) _) (one_seen 𝓛 c s κ xs i d b (o + s) (le_of_suc-le-suc low))

pub node_spec : {M : Type 1} → statement M
node_spec 𝓤 𝓛 𝓜 𝓡 wired T A L LA g d dd met glued =
    let H = 𝓛.H in let 𝓣 = tables 𝓤 H 𝓜 𝓡 𝓡.env in
    let R : RattleType = param 0 T in let B : RattleType = C.the_row R (param 1 A) g in let Np : RattleType = N.the_row in
    let args = bounded (a_type ∷ a_type ∷ []) (T, (A, tt)) (dcons d (dcons dd dnil)) in
    let fn = inst_fn args code.function in let En = ended T A g d dd in let c = clauses T A g d dd 𝓛 𝓜.mem 𝓡.returns in
    let hs : Stays En.signature.params En.kept = (stay_dropped (SliceRefOf (0 ∷ []) tt (plain (λ _. B)) (λ _. tt)) yes, (stay_dropped (plain (λ _. Np)) yes, tt)) in
    proved_at 𝓛 En hs c 𝓜 𝓡 (Goes-dropped 𝓛 3 (SliceRefOf (0 ∷ []) tt (plain (λ _. B)) (λ _. tt)) yes (λ κs x f. refl), (Goes-dropped 𝓛 3 (plain (λ _. Np)) yes (λ κs x f. refl), tt))
    (#self args) fn (code.unfolded 𝓤 H 𝓜 𝓡 wired (T, (A, tt)) d dd) (λ z are.
    let κs = z.0.0 in let qs = z.0.1 in let κ = κs.0 in let xs = z.0.3.0.now in let sp = z.0.3.0.ref_ptr in let at = z.0.3.1.0 in
    let Post : Val → SProp 𝓤 = (walk_of 𝓛 En hs c).post z in
    let Asked : Type 0 = IsSome (value_at at.ptr xs) in
    let toks = ‵ (flft κ qs.0) ⊛ ‵ (flft κs.1.0 qs.1.0) ⊛ ‵ (flft κs.1.1.0 qs.1.1.0) ⊛ ‵ ftrue in
    qed 𝓛 ((toks ⊛ ‵ (owns (types_at En.signature.params κs) z.0.3 z.0.4)) ∷ (raw (fact 𝓤 (κs.1.0 ⊑ T.lives)) ⊛ raw (fact 𝓤 (κs.1.1.0 ⊑ A.lives)) ⊛ raw (fact 𝓤 Asked)) ∷ []) ∵
    move ! (1 ∷ []) $ split3 ! $ drop ! $ drop ! $ heard ! Asked (λ asked. split ! $ move ! (1 ∷ []) $
    let f = found at.ptr xs asked in
    fsplit ! $ fsplit ! $ drop ! $ move ! (1 ∷ []) $ fsplit ! $ word_had ! at.ptr z.0.4.1.0 (λ ew. drop ! $
    regoal ! (λ (us : List Val). prop (WpFn 𝓤 H 𝓣.C 𝓣.Λ fn us Post)) (λ i. are.0.0.0 i ++ (ew i ++ [])) refl $
    enter ! 𝓣.C 𝓣.Λ fn (slice_val sp (length xs) ∷ word at.ptr ∷ []) Post $
    alloc_all ! (λ l. pass_all ! refl ((tt, (tt, (record { fits = are.0.0.1.0 }, tt))), (word-Good [] at.ptr, tt)) $ let Ev = env fn.locals l in
    -- [the elements, hidden; the tokens]
    unhide ! $ use1 𝓛 (some (λ (off : ℕ). ‵ (shared_of B (get_or xs f.index f.box) sp.0 off κ))) (one_seen 𝓛 (shared_of B) (mem B).size κ xs f.index f.box sp.0 sp.1 f.low) $ pick ! (λ off.
    rewrite ! 0 (λ (x : B.Denot). ‵ (shared_of B x sp.0 off κ)) f.is refl $ fsplit ! $ drop ! $
    -- [what the box lends; the tokens]
    in_a_block ! f.box.at (λ p. lent_at R p f.box.value κ) (fst∗ 𝓤 (never 𝓤) (sem 𝓛 (shared_of R f.box.value 0 0 κ))) (λ pb po e.
    let ep : at.ptr ≡ block_ptr pb po = sym f.at ∙ e in
    let out : Bor T.Denot = record { ref_ptr = (pb, po); now = f.box.value } in
    first ! $ blocks ! $ sets ! (is ! (of_opd ! (get_in ! (fld ! refl (stop !)) (sub ! 0 refl (whole !)))) (ap ptr_val ep)) refl (tt, tt) $
    sets_last ! (addr ! (through ! refl (stop !))) refl (tt, tt) $
    exec ! 𝓣.C 𝓣.Λ Ev (after 1 fn.body) (at_ret Ev Post) $ sets ! (of_opd ! (get ! refl)) refl (tt, tt) $
    returns ! (look_at ! 0 refl) $ free_all ! refl $
    fsplit ! $ drop ! $ hide ! $ feq_i ! (List Val) (vptr pb po ∷ []) (vptr pb po ∷ []) refl $ fjoin ! $
    use0 𝓛 (raw (fact 𝓤 (value_at at.ptr xs ≡ Some f.box.value))) (fact_i 𝓤 (value_at at.ptr xs ≡ Some f.box.value) (emp 𝓤) f.value) $
    nothing ! $ nothing ! $ fjoin ! $ nothing ! $ fjoin ! $ move ! (3 ∷ 0 ∷ 2 ∷ 1 ∷ []) $
    by ! (leaves 𝓛 En hs c z (vptr pb po) out (tt, (tt, tt)) (tt, (tt, tt)))))))))
