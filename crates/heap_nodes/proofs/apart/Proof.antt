-- `apart` looks at what the row owns, and does nothing.
use Rattle.std.proofs.Common.{◌≡◌, List, [], ◌∷◌, ◌++◌, length, refl}
use mir.Syntax.{a_type, dcons, dnil}
use mir.Val.{Val, vunit}
use mir.MapTy.{inst_fn}
use base.Logic.{SProp, emp}
use base.Fml.{ftrue, flft}
use prog.Wp.{WpFn}
use types.Kit.{‵, raw, ◌⊛◌, prop, ◌$◌, ◌∵◌, !, qed, by, move, keep, drop, use0, split, split3, join, fsplit, fsplit3, fjoin, feq_i, regoal}
use types.Run.{unit_lit, of_opd, returns, enter}
use types.ByLocal.{alloc_all, pass_all, free_all, look_at, sets}
use contract.Monad.{fact, fact_i}
use contract.BorrowLft.{◌⊑◌}
use contract.Running.{tables}
use denote.RattleType.{RattleType, owns}
use denote.Index.{opens_slice, closes_slice}
use denote.Shadow.{pure_i}
use denote.Signature.{types_at, plain}
use denote.Steps.{nothing, heard}
use denote.Param.{bounded}
use denote.Slice.{slice_val, mut_slice_at}
use denote.Triple.Walked.{Stays, stay_slice, walk_of, Goes-slice}
use Rattle.std_alloc.proofs.BoxSteps.Form as box
use Rattle.std.proofs.raw_atomic.Walks.{proved_at, leaves}
use Rattle.heap_nodes.specs.Owners.{places, IsApart, TakesRoom}
use Rattle.heap_nodes.proofs.Distinct.{knows1, row_apart}
use Rattle.heap_nodes.specs.contracts.apart.{ended, clauses}
use Rattle.heap_nodes.specs.contracts.apart.Key.{name as #self}
use Rattle.heap_nodes.proofs.apart.Statement.{statement}
use Rattle.heap_nodes.proofs.apart.Code as code

pub apart_spec : {M : Type 1} → statement M
apart_spec 𝓤 𝓛 𝓜 𝓡 wired T A L LA g d dd met glued =
    let H = 𝓛.H in let 𝓣 = tables 𝓤 H 𝓜 𝓡 𝓡.env in
    let E : box.Bx = record { row = T; laws = L; al = record { row = A; laws = LA; g = g; d = d; drops = dd } } in let R : RattleType = box.R E in
    let args = bounded (a_type ∷ a_type ∷ []) (T, (A, tt)) (dcons d (dcons dd dnil)) in
    let fn = inst_fn args code.function in let En = ended T A g d dd in let c = clauses T A g d dd 𝓛 𝓜.mem 𝓡.returns in
    let Asked : Type 0 = TakesRoom R in
    let hs : Stays En.signature.params En.kept = (stay_slice (0 ∷ []) tt (plain (λ _. Rattle.heap_nodes.specs.contracts.owner.Owner.the_row R (box.P E) g)), tt) in
    proved_at 𝓛 En hs c 𝓜 𝓡 (Goes-slice 𝓛 3 0 tt (plain (λ _. Rattle.heap_nodes.specs.contracts.owner.Owner.the_row R (box.P E) g)), tt)
    (#self args) fn (code.unfolded 𝓤 H 𝓜 𝓡 wired (T, (A, tt)) d dd) (λ z are.
    let κs = z.0.0 in let qs = z.0.1 in let κ = κs.0 in let xs = z.0.3.0.now in let sb = z.0.3.0.ref_ptr.0 in let so = z.0.3.0.ref_ptr.1 in let γ = z.0.3.0.ghost_name in
    let Ow : RattleType = Rattle.heap_nodes.specs.contracts.owner.Owner.the_row R (box.P E) g in
    let Post : Val → SProp 𝓤 = (walk_of 𝓛 En hs c).post z in
    let more = ‵ (flft κs.1.0 qs.1.0) ⊛ ‵ (flft κs.1.1.0 qs.1.1.0) ⊛ ‵ ftrue in
    qed 𝓛 (((‵ (flft κ qs.0) ⊛ more) ⊛ ‵ (owns (types_at En.signature.params κs) z.0.3 z.0.4)) ∷ (raw (fact 𝓤 (κs.1.0 ⊑ T.lives)) ⊛ raw (fact 𝓤 (κs.1.1.0 ⊑ A.lives)) ⊛ raw (fact 𝓤 Asked)) ∷ []) ∵
    move ! (1 ∷ []) $ split3 ! $ drop ! $ drop ! $ heard ! Asked (λ sized. split ! $ move ! (1 ∷ []) $
    fsplit ! $ fsplit3 ! $ drop ! $ move ! (3 ∷ []) $ split ! $ keep ! (2 ∷ 3 ∷ 0 ∷ 1 ∷ []) $
    regoal ! (λ (us : List Val). prop (WpFn 𝓤 H 𝓣.C 𝓣.Λ fn us Post)) (λ j. are.0.0.0 j ++ []) refl $
    enter ! 𝓣.C 𝓣.Λ fn (slice_val (sb, so) (length xs) ∷ []) Post $
    alloc_all ! (λ l. pass_all ! refl ((tt, (tt, (record { fits = are.0.0.1.0 }, tt))), tt) $
    opens_slice ! tt Ow xs sb so $ knows1 ! (IsApart (places xs)) (row_apart E 𝓛 𝓜 sized xs sb so) (λ far. closes_slice ! tt Ow xs xs refl sb so $
    sets ! (of_opd ! (unit_lit !)) refl (tt, tt) $ returns ! (look_at ! 0 refl) $ free_all ! refl $
    fjoin ! $ pure_i ! (mut_slice_at Ow (record { ref_ptr = (sb, so); ghost_name = γ; now = xs }) z.0.4.0) (tt, (tt, tt)) are.0.0 $ fjoin ! $
    nothing ! $ move ! (1 ∷ 0 ∷ []) $ fjoin ! $ move ! (1 ∷ 2 ∷ []) $ join ! $
    use0 𝓛 (raw (fact 𝓤 (IsApart (places xs)))) (fact_i 𝓤 (IsApart (places xs)) (emp 𝓤) far) $
    use0 𝓛 (raw (fact 𝓤 (xs ≡ xs))) (fact_i 𝓤 (xs ≡ xs) (emp 𝓤) refl) $ join ! $
    feq_i ! (List Val) (vunit ∷ []) (vunit ∷ []) refl $ move ! (2 ∷ 3 ∷ 0 ∷ 1 ∷ []) $
    by ! (leaves 𝓛 En hs c z vunit tt (xs, tt) (refl, tt))))))
