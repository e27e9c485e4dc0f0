-- The values of arguments, one after another.
use Rattle.std.proofs.Common.{◌≡◌, ℕ, ◌+◌, ◌<◌, ◌&&◌, Bool, true, false, List, [], ◌∷◌, ◌++◌, length, get_or, drop, map, Option, Some, None, refl, sym, ap, ◌∙◌, append_assoc}
use Rattle.std.specs.Option.{option_map}
use Rattle.std.proofs.Math.Path.{fun_ext}
use Rattle.std.proofs.lemmas.List.{append-nil, map-append}
use Rattle.bits_core.specs.declared.word.Word.{Word}
use Rattle.cmeaning.specs.declared.tree.Expr.{Expr}
use Rattle.cmeaning.specs.Do.{Local, ends, with_word, with_words, values_of}
use Rattle.cmeaning.specs.Shape.{shape_of, is_right}
use Rattle.cmeaning.specs.Valid.{are_right}
use Rattle.cmeaning.specs.Value.{value_of}
use Rattle.machine.specs.Trace.{Undefined}
use Rattle.cvalue.specs.Held.{number_in}
use Rattle.run_world.specs.Meaning.{value_of as number_of}
use Rattle.c_run.specs.States.{all_of, before, numbers_in}
use Rattle.pcode_model.proofs.Members.{rest_at}

first_true : (a b : Bool) → a && b ≡ true → a ≡ true
first_true true b h = refl
first_true false b h = cc

second_true : (a b : Bool) → a && b ≡ true → b ≡ true
second_true true b h = h
second_true false b h = cc

right_split : (ws : ℕ → ℕ) (es : List Expr) (i : ℕ) (e : Expr)
    → i < length es
    → e ≡ get_or es i e
    → are_right ws (drop i es) ≡ true
    → is_right (shape_of ws e) && are_right ws (drop (i + 1) es) ≡ true
right_split ws es i e within is h = sym (ap (are_right ws) (rest_at es i e within is)) ∙ h

pub right_first : (ws : ℕ → ℕ) (es : List Expr) (i : ℕ) (e : Expr)
    → i < length es
    → e ≡ get_or es i e
    → are_right ws (drop i es) ≡ true
    → is_right (shape_of ws e) ≡ true
right_first ws es i e within is h =
    first_true (is_right (shape_of ws e)) (are_right ws (drop (i + 1) es)) (right_split ws es i e within is h)

pub right_rest : (ws : ℕ → ℕ) (es : List Expr) (i : ℕ) (e : Expr)
    → i < length es
    → e ≡ get_or es i e
    → are_right ws (drop i es) ≡ true
    → are_right ws (drop (i + 1) es) ≡ true
right_rest ws es i e within is h =
    second_true (is_right (shape_of ws e)) (are_right ws (drop (i + 1) es)) (right_split ws es i e within is h)

values_split : (ws : ℕ → ℕ) (env : ℕ → Option ℕ) (es : List Expr) (i : ℕ) (e : Expr)
    → i < length es
    → e ≡ get_or es i e
    → all_of (values_of ws env (drop i es)) ≡ before (value_of ws env e) (all_of (values_of ws env (drop (i + 1) es)))
values_split ws env es i e within is = ap (λ xs. all_of (values_of ws env xs)) (rest_at es i e within is)

pub value_lacks : (ws : ℕ → ℕ) (env : ℕ → Option ℕ) (es : List Expr) (i : ℕ) (e : Expr) (xs : List ℕ)
    (o : Option Word) (all : Option (List ℕ))
    → i < length es
    → e ≡ get_or es i e
    → o ≡ None
    → number_in o ≡ value_of ws env e
    → all ≡ option_map (λ ns. xs ++ ns) (all_of (values_of ws env (drop i es))) → None ≡ all
value_lacks ws env es i e xs o all within is none value before_is =
    let lacks : value_of ws env e ≡ None = sym value ∙ ap number_in none in
    sym (before_is
    ∙ ap (option_map (λ ns. xs ++ ns)) (values_split ws env es i e within is
    ∙ ap (λ z. before z (all_of (values_of ws env (drop (i + 1) es)))) lacks))

one_more : (xs : List ℕ) (n : ℕ) (rest : Option (List ℕ))
    → option_map (λ ns. xs ++ ns) (before (Some n) rest) ≡ option_map (λ ns. (xs ++ n ∷ []) ++ ns) rest
one_more xs n None = refl
one_more xs n (Some ns) = ap Some (sym (append_assoc xs (n ∷ []) ns))

pub value_more : (ws : ℕ → ℕ) (env : ℕ → Option ℕ) (es : List Expr) (i : ℕ) (e : Expr) (words longer : List Word)
    (w : Word) (o : Option Word) (all : Option (List ℕ))
    → i < length es
    → e ≡ get_or es i e
    → o ≡ Some w
    → number_in o ≡ value_of ws env e
    → longer ≡ words ++ w ∷ []
    → all ≡ option_map (λ ns. map number_of words ++ ns) (all_of (values_of ws env (drop i es)))
    → all ≡ option_map (λ ns. map number_of longer ++ ns) (all_of (values_of ws env (drop (i + 1) es)))
value_more ws env es i e words longer w o all within is some value pushed before_is =
    let has : value_of ws env e ≡ Some w.value = sym value ∙ ap number_in some in
    let rest = all_of (values_of ws env (drop (i + 1) es)) in
    before_is
    ∙ ap (option_map (λ ns. map number_of words ++ ns))
    (values_split ws env es i e within is ∙ ap (λ z. before z rest) has)
    ∙ one_more (map number_of words) w.value rest
    ∙ ap (λ z. option_map (λ ns. z ++ ns) rest) (sym (ap (map number_of) pushed ∙ map-append number_of words (w ∷ [])))

pub value_last : (ws : ℕ → ℕ) (env : ℕ → Option ℕ) (es : List Expr) (words : List Word) (all : Option (List ℕ))
    → drop (length es) es ≡ []
    → all ≡ option_map (λ ns. map number_of words ++ ns) (all_of (values_of ws env (drop (length es) es)))
    → numbers_in (Some words) ≡ all
value_last ws env es words all none is =
    sym (is
    ∙ ap (λ xs. option_map (λ ns. map number_of words ++ ns) (all_of (values_of ws env xs))) none
    ∙ ap Some (append-nil (map number_of words)))

-- what is done with the values
abbrev pub by_values : Option (List ℕ) → Local → (List ℕ → Local) → Local
by_values None x to = ends Undefined x
by_values (Some ns) x to = to ns

word_then : (a : Option ℕ) (rest : Option (List ℕ)) (x : Local) (to : List ℕ → Local)
    → with_word a x (λ n. by_values rest x (λ ns. to (n ∷ ns))) ≡ by_values (before a rest) x to
word_then None rest x to = refl
word_then (Some n) None x to = refl
word_then (Some n) (Some ns) x to = refl

pub with_all : (os : List (Option ℕ)) (x : Local) (to : List ℕ → Local)
    → with_words os x to ≡ by_values (all_of os) x to
with_all [] x to = refl
with_all (a ∷ rest) x to =
    ap (with_word a x) (fun_ext (λ n. with_all rest x (λ ns. to (n ∷ ns)))) ∙ word_then a (all_of rest) x to

pub values_by : (os : List (Option ℕ)) (o : Option (List Word)) (x : Local) (to : List ℕ → Local)
    → numbers_in o ≡ all_of os
    → by_values (numbers_in o) x to ≡ with_words os x to
values_by os o x to is = ap (λ z. by_values z x to) is ∙ sym (with_all os x to)
