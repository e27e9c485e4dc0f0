-- `place` reads the pointer through the `&`.
use Rattle.std.proofs.Common.{◌≡◌, ◌+◌, List, [], ◌∷◌, ◌++◌, refl}
use mir.Syntax.{a_type, dcons, dnil}
use mir.Val.{Val, vptr}
use mir.MapTy.{inst_fn}
use base.Logic.{SProp, emp}
use base.Fml.{ftrue, fhide, flft}
use prog.Wp.{WpFn}
use types.Kit.{‵, raw, ◌⊛◌, prop, ◌$◌, ◌∵◌, !, qed, by, move, keep, drop, use0, use1, split, join, fsplit, fjoin, regoal}
use types.Run.{look, stop, fld, load, of_opd, and_then, no_more, returns, enter}
use types.Part.{agg}
use types.ByLocal.{alloc_all, pass_all, free_all, look_at, get, through, sets}
use contract.Monad.{fact, fact_i}
use contract.Running.{tables}
use denote.Exit.{yes}
use denote.RattleType.{RattleType, owns}
use denote.Builtin.{RefOf}
use denote.Memory.{hidden_shr}
use denote.Signature.{types_at, plain}
use denote.Opens.{hide, unhide}
use denote.Steps.{nothing}
use denote.Param.{param, bounded}
use denote.Struct.Struct.{Struct}
use denote.Struct.Owning.{shape}
use denote.Struct.Lending.{lent_out}
use denote.Triple.Walked.{Stays, stay_dropped, walk_of, Goes-dropped}
use Rattle.std_alloc.proofs.RcSteps.{Ptr-Good, word, word-Good}
use Rattle.std.proofs.raw_atomic.Walks.{proved_at, leaves}
use Rattle.heap_nodes.proofs.Steps.{word_made, peer_in, peer_out}
use Rattle.heap_nodes.specs.contracts.owner.Owner as C
use Rattle.heap_nodes.specs.contracts.owner.Owner.place.{ended, clauses}
use Rattle.heap_nodes.specs.contracts.owner.Owner.place.Key.{name as #self}
use Rattle.heap_nodes.proofs.owner.Owner.place.Statement.{statement}
use Rattle.heap_nodes.proofs.owner.Owner.place.Code as code

pub place_spec : {M : Type 1} → statement M
place_spec 𝓤 𝓛 𝓜 𝓡 wired T A L LA g d dd met glued =
    let H = 𝓛.H in let 𝓣 = tables 𝓤 H 𝓜 𝓡 𝓡.env in
    let R : RattleType = param 0 T in let Z : RattleType = param 1 A in let B : RattleType = C.the_row R Z g in let Words : RattleType = Struct (shape (C.the_type R Z g)) in
    let args = bounded (a_type ∷ a_type ∷ []) (T, (A, tt)) (dcons d (dcons dd dnil)) in
    let fn = inst_fn args code.function in let En = ended T A g d dd in let c = clauses T A g d dd 𝓛 𝓜.mem 𝓡.returns in
    let hs : Stays En.signature.params En.kept = (stay_dropped (RefOf (0 ∷ []) tt (plain (λ _. B)) (λ _. tt)) yes, tt) in
    proved_at 𝓛 En hs c 𝓜 𝓡 (Goes-dropped 𝓛 3 (RefOf (0 ∷ []) tt (plain (λ _. B)) (λ _. tt)) yes (λ κs x f. refl), tt)
    (#self args) fn (code.unfolded 𝓤 H 𝓜 𝓡 wired (T, (A, tt)) d dd) (λ z are.
    let κs = z.0.0 in let qs = z.0.1 in let κ = κs.0 in let v = z.0.3.0.now in let b = z.0.3.0.ref_ptr.0 in let o = z.0.3.0.ref_ptr.1 in let p = v.at in
    let Post : Val → SProp 𝓤 = (walk_of 𝓛 En hs c).post z in
    let more = ‵ (flft κs.1.0 qs.1.0) ⊛ ‵ (flft κs.1.1.0 qs.1.1.0) ⊛ ‵ ftrue in
    qed 𝓛 (((‵ (flft κ qs.0) ⊛ more) ⊛ ‵ (owns (types_at En.signature.params κs) z.0.3 z.0.4)) ∷ raw ((c κs z.0.3).requires z.1) ∷ []) ∵
    split ! $ move ! (1 ∷ []) $ fsplit ! $ fsplit ! $ drop ! $ move ! (2 ∷ []) $ split ! $ keep ! (2 ∷ 0 ∷ 1 ∷ []) $
    -- [a `&` to the owner; the token; the other tokens]
    use1 𝓛 (‵ (hidden_shr Words κ (p, (v.alloc, tt)) b o) ⊛ ‵ (fhide (C.the_lent R Z g v p κ))) (lent_out 𝓛 (C.struct R Z g) (C.the_codes R.Denot Z.Denot R.coded Z.coded) (C.the_heap R Z g) (C.the_lent R Z g) κ v b o) $ split ! $
    unhide ! $ fsplit ! $ fsplit ! $ hide ! $ keep ! (0 ∷ 4 ∷ 5 ∷ []) $
    regoal ! (λ (us : List Val). prop (WpFn 𝓤 H 𝓣.C 𝓣.Λ fn us Post)) (λ i. are.0.0 i ++ []) refl $
    enter ! 𝓣.C 𝓣.Λ fn (vptr b o ∷ []) Post $ alloc_all ! (λ l. pass_all ! refl ((tt, tt), tt) $
    peer_in ! tt p b (o + 0) (λ s.
    sets ! (of_opd ! (load ! (through ! refl (fld ! refl (stop !))) (look ! 0 refl))) refl (Ptr-Good p) $ sets ! (of_opd ! (get ! refl)) refl (Ptr-Good p) $
    sets ! (agg ! (and_then ! (get ! refl) (no_more !))) refl (word-Good [] p) $ peer_out ! tt p b (o + 0) $
    returns ! (look_at ! 0 refl) $ free_all ! refl $ join ! $ word_made ! p $
    use0 𝓛 (raw (fact 𝓤 (p ≡ p))) (fact_i 𝓤 (p ≡ p) (emp 𝓤) refl) $ nothing ! $ nothing ! $ fjoin ! $ move ! (3 ∷ 0 ∷ 2 ∷ 1 ∷ []) $
    by ! (leaves 𝓛 En hs c z (word p) (record { ptr = p }) (tt, tt) (tt, tt)))))
