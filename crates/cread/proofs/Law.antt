-- Each expression that has a shape is read again from its text.
use Rattle.std.proofs.Common.{◌≡◌, ℕ, zero, suc, ◌+◌, ◌*◌, ◌%◌, ◌^◌, ◌<◌, ◌≤◌, min, max, Bool, true, false, cond, ltb, leb, ◌&&◌, List, [], ◌∷◌, ◌++◌, Option, Some, None, refl, sym, ap, ◌∙◌, subst, arith, append_assoc, lit<, lit≤}
use Rattle.std.specs.Prelude.{codes}
use Rattle.std.specs.Fmt.{decimal}
use Rattle.std.proofs.lemmas.Bool.{ltb-true, leb-true, and_parts}
use Rattle.bits_core.specs.declared.word.Width.{Width}
use Rattle.bits_core.specs.declared.word.Word.{Word}
use Rattle.cmeaning.specs.declared.shape.Shape.{Shape}
use Rattle.cmeaning.specs.Shape.{leaf, same_width, may_divide, may_divide_signed, may_join, is_part, left_width, shape_step, shape_of}
use Rattle.cmeaning.specs.Valid.{are_params}
use Rattle.cmeaning.specs.declared.tree.UnaryOp.{UnaryOp}
use Rattle.cmeaning.specs.declared.tree.ArithmeticOp.{ArithmeticOp}
use Rattle.cmeaning.specs.declared.tree.DivisionOp.{DivisionOp}
use Rattle.cmeaning.specs.declared.tree.DivisionOp.TheVariants as D
use Rattle.cmeaning.specs.declared.tree.SignedDivisionOp.{SignedDivisionOp}
use Rattle.cmeaning.specs.declared.tree.SignedDivisionOp.TheVariants as SD
use Rattle.cmeaning.specs.declared.tree.ShiftOp.{ShiftOp}
use Rattle.cmeaning.specs.declared.tree.ShiftOp.TheVariants as H
use Rattle.cmeaning.specs.declared.tree.CompareOp.{CompareOp}
use Rattle.cmeaning.specs.declared.tree.CompareOp.TheVariants as C
use Rattle.cmeaning.specs.declared.tree.SignedCompareOp.{SignedCompareOp}
use Rattle.cmeaning.specs.declared.tree.SignedCompareOp.TheVariants as SC
use Rattle.cmeaning.specs.declared.tree.ExtendOp.{ExtendOp}
use Rattle.cmeaning.specs.declared.tree.ExtendOp.TheVariants.{Zext, Sext}
use Rattle.cmeaning.specs.declared.tree.OverflowOp.{OverflowOp}
use Rattle.cmeaning.specs.declared.tree.CountOp.{CountOp}
use Rattle.cmeaning.specs.declared.tree.Expr.{Expr, fold-roll-Expr, ind-Expr, roll-Expr, map-Expr}
use Rattle.cmeaning.specs.declared.tree.Expr.TheOpen.{Expr-F}
use Rattle.cmeaning.specs.declared.tree.Expr.TheVariants as e
use Rattle.ctext.specs.Names.{Scope, variable, hex, type_text}
use Rattle.ctext.specs.Expressions.{Form, enclosed, cast, compound, simple, comparison, constant, suffix, variable_form, between, call_of_two, unary_sign, arithmetic_sign, division_sign, signed_division_sign, compare_sign, signed_compare_sign, shift_word, shift_sign, shift_by_sign, is_below, overflow_word, count_word, extend_text, part_text, form_step, form}
use Rattle.cread.specs.declared.item.Item.{Item}
use Rattle.cread.specs.declared.item.Sign.{Sign}
use Rattle.cread.specs.declared.item.Sign.TheVariants as S
use Rattle.cread.specs.declared.item.Pair.{Pair}
use Rattle.cread.specs.declared.item.Pair.TheVariants as P
use Rattle.cread.specs.Words.{after, or_else, hex_at}
use Rattle.cread.specs.Names.{width_by, type_at}
use Rattle.cread.specs.Expressions.{unary_at, pair_at, count_at, item, as_signed, joined, paired, constant_by, cast_by, paren_by, part_by, inner_by, named_at, atom_by, operand_by, operand_at}
use Rattle.cread.specs.Statements.{right_at, division_at}
use Rattle.cread.proofs.Fronts.{hex_again, decimal_again}
use Rattle.cread.proofs.Naming.{IsStop, space, close, comma, semi, stop_digit, NameHead, of_local_name, of_model, of_entry, Named, variable_named, at_comma, stop_of}
use Rattle.cread.proofs.Widths.{type_again, width_again, word_again, word_small}
use Rattle.cread.proofs.Again.{Headed, headed_paren, Sized, Again, Inner, Operand, AllHeaded, cast_of, resize_same, in_cast, alone_of, simple_again, compound_again, comparison_again}
use Rattle.cread.proofs.Forms.{one_is, TwoShape, two_is, resize_zext, resize_sext, resize_part, unary_head, unary_read, IsSign, sign_arithmetic, sign_division, sign_left, sign_right, sign_compare, joined_read, joined_head, IsPairWord, word_shift, word_concat, word_overflow, pair_head, pair_read, count_head, count_read}

-- ---- the laws of the layers

pub form_roll : (sc : Scope) (l : Expr-F Expr) (t : Expr)
    → roll-Expr l ≡ t
    → form sc t ≡ form_step sc (map-Expr Expr Form (form sc) l)
unfolding form
form_roll sc l t is = ap (form sc) (sym is) ∙ fold-roll-Expr Form (form_step sc) l

pub shape_roll : (ws : ℕ → ℕ) (l : Expr-F Expr) (t : Expr)
    → roll-Expr l ≡ t
    → shape_of ws t ≡ shape_step ws (map-Expr Expr (Option Shape) (shape_of ws) l)
unfolding shape_of
shape_roll ws l t is = ap (shape_of ws) (sym is) ∙ fold-roll-Expr (Option Shape) (shape_step ws) l

-- the variables of a valid tree
pub record Context (sc : Scope) (ws : ℕ → ℕ) : Type 0 where
  pub params : are_params sc.params ≡ true
  pub widths : (v : ℕ) → ws v ≡ (variable sc v).width
  pub fits : (v : ℕ) → (variable sc v).width < 17

-- an expression that has a shape is read again
abbrev pub Reads : Scope → (ℕ → ℕ) → Expr → Type 0
Reads sc ws t = (s : Shape) → shape_of ws t ≡ Some s → Again sc t s.width s.depth (form sc t)

moved : (sc : Scope) (t : Expr) (w v d c : ℕ) (f g : Form) → g ≡ f → v ≡ w → c ≡ d → Again sc t w d f → Again sc t v c g
moved sc t w v d c f g is_f is_w is_d h =
    subst (λ (x : Form). Again sc t v c x) (sym is_f)
    (subst (λ (x : ℕ). Again sc t x c f) (sym is_w) (subst (λ (x : ℕ). Again sc t w x f) (sym is_d) h))

-- one level above operands
above_one : {w d : ℕ} (v : ℕ) → Sized w d → 0 < v → v < 17 → d < 64 → Sized v (d + 1)
above_one v s some fits low = record { some = some; fits = fits; deep = omega arith; low = omega arith }

above_two : {w d u g : ℕ} (v : ℕ) → Sized w d → Sized u g → 0 < v → v < 17 → max d g < 64 → Sized v (max d g + 1)
above_two v s r some fits low = record { some = some; fits = fits; deep = omega arith; low = omega arith }

-- ---- with a sign

unary_inner : (sc : Scope) (op : UnaryOp) (a : Expr) (w d : ℕ) (f : Form)
    → Again sc a w d f
    → Inner sc (e.Unary op a) w (d + 1) (unary_sign op ++ f.operand)
unfolding inner_by
unary_inner sc op a w d f x n c rest le end =
    let grouped : (unary_sign op ++ f.operand) ++ c ∷ rest ≡ unary_sign op ++ (f.operand ++ c ∷ rest) =
    append_assoc (unary_sign op) f.operand (c ∷ rest) in
    let one = unary_read op (f.operand ++ c ∷ rest) in
    let two = x.operand n c rest (omega arith) (stop_of end) in
    rw (grouped, one, two) refl

-- operands in their unsigned forms around a sign
plain_inner : (sc : Scope) (a b t : Expr) (w v d g u : ℕ) (f h : Form) (mark : List ℕ) (s : Sign)
    → IsSign mark s
    → joined s (item a w) (item b v) ≡ item t u
    → Again sc a w d f
    → Again sc b v g h
    → Inner sc t u (max d g + 1) (between f.operand mark h.operand)
plain_inner sc a b t w v d g u f h mark s is made x y n c rest le end =
    joined_read sc n (item a w) (item b v) f.operand h.operand mark s c rest is x.operand_head
    (λ more. x.operand n 32 more (omega arith) space) (y.operand n c rest (omega arith) (stop_of end))
    ∙ ap (λ (i : Item). Some (i, c ∷ rest)) made

-- in their signed forms
signed_inner : (sc : Scope) (a b t : Expr) (w v d g u : ℕ) (f h : Form) (mark : List ℕ) (s : Sign)
    → IsSign mark s
    → joined s (as_signed (item a w)) (as_signed (item b v)) ≡ item t u
    → Again sc a w d f
    → Again sc b v g h
    → Inner sc t u (max d g + 1) (between f.signed mark h.signed)
signed_inner sc a b t w v d g u f h mark s is made x y n c rest le end =
    joined_read sc n (as_signed (item a w)) (as_signed (item b v)) f.signed h.signed mark s c rest is x.signed_head
    (λ more. x.signed n 32 more (omega arith) space) (y.signed n c rest (omega arith) (stop_of end))
    ∙ ap (λ (i : Item). Some (i, c ∷ rest)) made

-- the operator that a signed one prints as
abbrev unsigned_of : SignedDivisionOp → DivisionOp
unsigned_of SD.SDiv = D.Div
unsigned_of SD.SRem = D.Rem

signed_mark : (op : SignedDivisionOp) → IsSign (signed_division_sign op) (S.Division (unsigned_of op))
signed_mark SD.SDiv = sign_division D.Div
signed_mark SD.SRem = sign_division D.Rem

signed_made : (op : SignedDivisionOp) (a b : Expr) (w v : ℕ)
    → joined (S.Division (unsigned_of op)) (as_signed (item a w)) (as_signed (item b v))
    ≡ item (e.SignedDivision op a b) w
signed_made SD.SDiv a b w v = refl
signed_made SD.SRem a b w v = refl

abbrev plain_of : SignedCompareOp → CompareOp
plain_of SC.SLt = C.Lt
plain_of SC.SLe = C.Le

signed_test : (op : SignedCompareOp) → IsSign (signed_compare_sign op) (S.Compare (plain_of op))
signed_test SC.SLt = sign_compare C.Lt
signed_test SC.SLe = sign_compare C.Le

signed_tested : (op : SignedCompareOp) (a b : Expr) (w v : ℕ)
    → joined (S.Compare (plain_of op)) (as_signed (item a w)) (as_signed (item b v)) ≡ item (e.SignedCompare op a b) 1
signed_tested SC.SLt a b w v = refl
signed_tested SC.SLe a b w v = refl

call_again : (sc : Scope) (a b t : Expr) (w v d g u : ℕ) (f h : Form) (word : List ℕ) (p : Pair)
    → IsPairWord word p
    → paired p (item a w) (item b v) ≡ item t u
    → Sized u (max d g + 1)
    → Again sc a w d f
    → Again sc b v g h
    → Again sc t u (max d g + 1) (simple u (call_of_two word f h))
call_again sc a b t w v d g u f h word p is made size x y =
    simple_again sc t u (max d g + 1) (call_of_two word f h) size
    (pair_head word (40 ∷ (f.plain ++ (codes ", " ++ (h.plain ++ 41 ∷ [])))) p is)
    (λ n c rest le stop. pair_read sc word p a b w v d g f h is x y n c rest le
    ∙ ap (λ (i : Item). Some (i, c ∷ rest)) made)

zext_operand : (sc : Scope) (w : Width) (a : Expr) (v d : ℕ) (f : Form)
    → Again sc a v d f
    → v < w.bytes
    → Operand sc (e.Extend Zext w a) w.bytes (d + 1) (cast false w.bytes f.operand)
zext_operand sc w a v d f x wider zero c rest le stop = absurd (omega arith)
zext_operand sc w a v d f x wider (suc n) c rest le stop =
    let most = w.to in
    cast_of sc n w.bytes f.operand (item a v) c rest (omega arith) (x.operand_head (c ∷ rest)).not_hex
    (x.operand n c rest (omega arith) stop) ∙ ap (λ (y : Item). Some (y, c ∷ rest)) (resize_zext w a v wider)

sext_operand : (sc : Scope) (w : Width) (a : Expr) (v d : ℕ) (f : Form)
    → Again sc a v d f
    → v < w.bytes
    → Operand sc (e.Extend Sext w a) w.bytes (d + 1) (cast false w.bytes f.signed)
sext_operand sc w a v d f x wider zero c rest le stop = absurd (omega arith)
sext_operand sc w a v d f x wider (suc n) c rest le stop =
    let most = w.to in
    cast_of sc n w.bytes f.signed (as_signed (item a v)) c rest (omega arith) (x.signed_head (c ∷ rest)).not_hex
    (x.signed n c rest (omega arith) stop) ∙ ap (λ (y : Item). Some (y, c ∷ rest)) (resize_sext w a v wider)

extend_operand : (sc : Scope) (op : ExtendOp) (w : Width) (a : Expr) (v d : ℕ) (f : Form)
    → Again sc a v d f
    → v < w.bytes
    → Operand sc (e.Extend op w a) w.bytes (d + 1) (cast false w.bytes (extend_text op f))
extend_operand sc Zext w a v d f x wider = zext_operand sc w a v d f x wider
extend_operand sc Sext w a v d f x wider = sext_operand sc w a v d f x wider

part_head : (k w : ℕ) (f : Form) → AllHeaded (part_text k w f)
unfolding after type_at unary_at right_at division_at
part_head zero w f z = headed_paren _
part_head (suc k) w f z = record {
  begun = record { not_typed = refl; not_right = refl; not_endless = refl; not_close = refl };
  not_unary = refl;
  not_hex = refl;
}

part_operand : (sc : Scope) (k : ℕ) (w : Width) (a : Expr) (v d : ℕ) (f : Form)
    → Again sc a v d f
    → w.bytes < v
    → k + w.bytes ≤ v
    → Operand sc (e.Part k w a) w.bytes (d + 1) (part_text k w.bytes f)
unfolding operand_at operand_by atom_by part_by pair_at count_at after
part_operand sc k w a v d f x less all zero c rest le stop = absurd (omega arith)
part_operand sc zero w a v d f x less all (suc n) c rest le stop =
    let most = w.to in
    cast_of sc n w.bytes f.operand (item a v) c rest (omega arith) (x.operand_head (c ∷ rest)).not_hex
    (x.operand n c rest (omega arith) stop) ∙ ap (λ (y : Item). Some (y, c ∷ rest)) (resize_part w a v less)
part_operand sc (suc k) w a v d f x less all (suc n) c rest le stop =
    let few = x.size.fits in
    let most = w.to in
    let last = 41 ∷ c ∷ rest in
    let dig = hex (suc k) in
    let grouped : (decimal w.bytes ++ 40 ∷ (f.plain ++ (codes ", 0x" ++ (dig ++ 41 ∷ [])))) ++ c ∷ rest
    ≡ decimal w.bytes ++ 40 ∷ (f.plain ++ 44 ∷ 32 ∷ 48 ∷ 120 ∷ (dig ++ last)) = simp append_assoc in
    let one = decimal_again w.bytes 40 (f.plain ++ 44 ∷ 32 ∷ 48 ∷ 120 ∷ (dig ++ last)) (omega arith) refl in
    let mid = x.plain n 44 (32 ∷ 48 ∷ 120 ∷ (dig ++ last)) (omega arith) at_comma in
    let num = hex_again (suc k) 41 (c ∷ rest) (omega arith) refl in
    let same = width_again w in
    let ek : suc k % 256 ≡ suc k = omega arith in
    rw (grouped, one, mid, num, same, ek) refl

past_suffix : {c : ℕ} (rest : List ℕ) → IsStop c → or_else (c ∷ rest) (after (codes "uwb") (c ∷ rest)) ≡ c ∷ rest
unfolding after
past_suffix rest space = refl
past_suffix rest close = refl
past_suffix rest comma = refl
past_suffix rest semi = refl

const_again : (b : Bool) (k : Word) (c : ℕ) (rest : List ℕ)
    → IsStop c
    → ◌≡◌ {A = Item × List ℕ} (constant_by (width_by k.width.bytes)
    (hex_at ((hex k.value ++ cond b [] (codes "uwb")) ++ c ∷ rest))) (item (e.Const k) k.width.bytes, c ∷ rest)
unfolding after
const_again true k c rest stop =
    let grouped : (hex k.value ++ []) ++ c ∷ rest ≡ hex k.value ++ c ∷ rest =
    append_assoc (hex k.value) [] (c ∷ rest) in
    let d = hex_again k.value c rest (word_small k) (stop_digit stop) in
    let w = width_again k.width in
    let same = word_again k in
    let behind = past_suffix rest stop in
    rw (grouped, d, w, same, behind) refl
const_again false k c rest stop =
    let grouped : (hex k.value ++ codes "uwb") ++ c ∷ rest ≡ hex k.value ++ 117 ∷ 119 ∷ 98 ∷ c ∷ rest =
    append_assoc (hex k.value) (codes "uwb") (c ∷ rest) in
    let d = hex_again k.value 117 (119 ∷ 98 ∷ c ∷ rest) (word_small k) refl in
    let w = width_again k.width in
    let same = word_again k in
    rw (grouped, d, w, same) refl

const_operand : (sc : Scope) (k : Word)
    → Operand sc (e.Const k) k.width.bytes 1 (cast false k.width.bytes (48 ∷ 120 ∷ (hex k.value ++ suffix k.value)))
unfolding operand_at operand_by after paren_by cast_by
const_operand sc k zero c rest le stop = absurd (omega arith)
const_operand sc k (suc n) c rest le stop =
    let w = k.width.bytes in
    let most = k.width.to in
    let text = 48 ∷ 120 ∷ (hex k.value ++ suffix k.value) in
    let grouped : (type_text false w ++ 41 ∷ text) ++ c ∷ rest ≡ type_text false w ++ 41 ∷ (text ++ c ∷ rest) =
    append_assoc (type_text false w) (41 ∷ text) (c ∷ rest) in
    let t = type_again false w 41 (text ++ c ∷ rest) (omega arith) refl in
    rw (grouped, t) (ap (λ (x : Item × List ℕ). Some x) (const_again (ltb k.value (2 ^ 64)) k c rest stop))

leaf_is : (w : ℕ) (k : Option Word) (s : Shape) → leaf w k ≡ Some s → (s.width ≡ w) × (s.depth ≡ 1)
leaf_is w k s h =
    let x : Shape = record { width = w; depth = 1; constant = k; comparison = false } in
    let is : x ≡ s = cc in
    (ap (λ (y : Shape). y.width) (sym is), ap (λ (y : Shape). y.depth) (sym is))

leaf_size : (w : ℕ) → 0 < w → w < 17 → Sized w 1
leaf_size w some fits = record { some = some; fits = fits; deep = lit< tt; low = lit≤ tt }

as_constant : (sc : Scope) (t : Expr) (w d n : ℕ)
    → Again sc t w d (simple w (cast false w (codes "0x" ++ (hex n ++ suffix n))))
    → Again sc t w d (constant w n)
as_constant sc t w d n x = record {
  size = x.size;
  width = x.width;
  operand = x.operand;
  signed = x.signed;
  plain = x.plain;
  test = x.test;
  operand_head = x.operand_head;
  signed_head = x.signed_head;
  plain_head = x.plain_head;
  test_head = x.test_head;
}

module _ (sc : Scope) (ws : ℕ → ℕ) where
  unary_case : (op : UnaryOp) (a : Expr) → Reads sc ws a → Reads sc ws (e.Unary op a)
  unary_case op a ra s h =
      let k = one_is (λ v. true) (λ v. v) (shape_of ws a) s
      (sym (shape_roll ws (Expr-F.Unary op a) (e.Unary op a) (e.rolls-Unary op a)) ∙ h) in
      let x = ra k.at k.is in
      let text = unary_sign op ++ (form sc a).operand in
      let f : form sc (e.Unary op a) ≡ compound k.at.width text =
      form_roll sc (Expr-F.Unary op a) (e.Unary op a) (e.rolls-Unary op a)
      ∙ ap (λ (w : ℕ). compound w text) x.width in
      moved sc (e.Unary op a) k.at.width s.width (k.at.depth + 1) s.depth (compound k.at.width text)
      (form sc (e.Unary op a)) f k.deep.width k.deep.depth
      (compound_again sc (e.Unary op a) k.at.width (k.at.depth + 1) text
      (above_one k.at.width x.size x.size.some x.size.fits k.deep.low) (unary_head op (form sc a).operand)
      (unary_inner sc op a k.at.width k.at.depth (form sc a) x))

  compound_two : (a b t : Expr) (s : Shape) (right : Shape → Shape → Bool)
      (k : TwoShape right left_width (shape_of ws a) (shape_of ws b) s) (mark : List ℕ) (sg : Sign)
      → IsSign mark sg
      → joined sg (item a k.first.width) (item b k.second.width) ≡ item t k.first.width
      → Reads sc ws a
      → Reads sc ws b
      → form sc t ≡ compound (form sc a).width (between (form sc a).operand mark (form sc b).operand)
      → Again sc t s.width s.depth (form sc t)
  compound_two a b t s right k mark sg is made ra rb f =
      let x = ra k.first k.a_is in
      let y = rb k.second k.b_is in
      let text = between (form sc a).operand mark (form sc b).operand in
      moved sc t k.first.width s.width (max k.first.depth k.second.depth + 1) s.depth (compound k.first.width text)
      (form sc t) (f ∙ ap (λ (w : ℕ). compound w text) x.width) k.deep.width k.deep.depth
      (compound_again sc t k.first.width (max k.first.depth k.second.depth + 1) text
      (above_two k.first.width x.size y.size x.size.some x.size.fits k.deep.low)
      (joined_head (form sc a).operand (mark ++ (form sc b).operand) x.operand_head)
      (plain_inner sc a b t k.first.width k.second.width k.first.depth k.second.depth k.first.width (form sc a)
      (form sc b) mark sg is made x y))

  arithmetic_case : (op : ArithmeticOp) (a b : Expr) → Reads sc ws a → Reads sc ws b → Reads sc ws (e.Arithmetic op a b)
  arithmetic_case op a b ra rb s h =
      compound_two a b (e.Arithmetic op a b) s same_width
      (two_is same_width left_width false (shape_of ws a) (shape_of ws b) s
      (sym (shape_roll ws (Expr-F.Arithmetic op a b) (e.Arithmetic op a b) (e.rolls-Arithmetic op a b)) ∙ h))
      (arithmetic_sign op) (S.Arithmetic op) (sign_arithmetic op) refl ra rb
      (form_roll sc (Expr-F.Arithmetic op a b) (e.Arithmetic op a b) (e.rolls-Arithmetic op a b))

  division_case : (op : DivisionOp) (a b : Expr) → Reads sc ws a → Reads sc ws b → Reads sc ws (e.Division op a b)
  division_case op a b ra rb s h =
      compound_two a b (e.Division op a b) s may_divide
      (two_is may_divide left_width false (shape_of ws a) (shape_of ws b) s
      (sym (shape_roll ws (Expr-F.Division op a b) (e.Division op a b) (e.rolls-Division op a b)) ∙ h))
      (division_sign op) (S.Division op) (sign_division op) refl ra rb
      (form_roll sc (Expr-F.Division op a b) (e.Division op a b) (e.rolls-Division op a b))

  signed_division_case : (op : SignedDivisionOp) (a b : Expr)
      → Reads sc ws a
      → Reads sc ws b
      → Reads sc ws (e.SignedDivision op a b)
  signed_division_case op a b ra rb s h =
      let t = e.SignedDivision op a b in
      let k = two_is may_divide_signed left_width false (shape_of ws a) (shape_of ws b) s
      (sym (shape_roll ws (Expr-F.SignedDivision op a b) t (e.rolls-SignedDivision op a b)) ∙ h) in
      let x = ra k.first k.a_is in
      let y = rb k.second k.b_is in
      let w = k.first.width in
      let d = max k.first.depth k.second.depth + 1 in
      let text = between (form sc a).signed (signed_division_sign op) (form sc b).signed in
      let f : form sc t ≡ simple w (cast false w (enclosed text)) =
      form_roll sc (Expr-F.SignedDivision op a b) t (e.rolls-SignedDivision op a b)
      ∙ ap (λ (v : ℕ). simple v (cast false v (enclosed text))) x.width in
      let size = above_two w x.size y.size x.size.some x.size.fits k.deep.low in
      let inner = signed_inner sc a b t w k.second.width k.first.depth k.second.depth w (form sc a) (form sc b)
      (signed_division_sign op) (S.Division (unsigned_of op)) (signed_mark op)
      (signed_made op a b w k.second.width) x y in
      moved sc t w s.width d s.depth (simple w (cast false w (enclosed text))) (form sc t) f k.deep.width k.deep.depth
      (simple_again sc t w d (cast false w (enclosed text)) size (λ z. headed_paren _)
      (in_cast sc t w d text size (joined_head (form sc a).signed (signed_division_sign op ++ (form sc b).signed)
      x.signed_head) inner))

  -- ---- comparisons

  compare_case : (op : CompareOp) (a b : Expr) → Reads sc ws a → Reads sc ws b → Reads sc ws (e.Compare op a b)
  compare_case op a b ra rb s h =
      let t = e.Compare op a b in
      let k = two_is same_width (λ v w. 1) true (shape_of ws a) (shape_of ws b) s
      (sym (shape_roll ws (Expr-F.Compare op a b) t (e.rolls-Compare op a b)) ∙ h) in
      let x = ra k.first k.a_is in
      let y = rb k.second k.b_is in
      let d = max k.first.depth k.second.depth + 1 in
      let text = between (form sc a).operand (compare_sign op) (form sc b).operand in
      moved sc t 1 s.width d s.depth (comparison text) (form sc t)
      (form_roll sc (Expr-F.Compare op a b) t (e.rolls-Compare op a b)) k.deep.width k.deep.depth
      (comparison_again sc t d text (above_two 1 x.size y.size (lit< tt) (lit< tt) k.deep.low)
      (joined_head (form sc a).operand (compare_sign op ++ (form sc b).operand) x.operand_head)
      (plain_inner sc a b t k.first.width k.second.width k.first.depth k.second.depth 1 (form sc a) (form sc b)
      (compare_sign op) (S.Compare op) (sign_compare op) refl x y))

  signed_compare_case : (op : SignedCompareOp) (a b : Expr)
      → Reads sc ws a
      → Reads sc ws b
      → Reads sc ws (e.SignedCompare op a b)
  signed_compare_case op a b ra rb s h =
      let t = e.SignedCompare op a b in
      let k = two_is same_width (λ v w. 1) true (shape_of ws a) (shape_of ws b) s
      (sym (shape_roll ws (Expr-F.SignedCompare op a b) t (e.rolls-SignedCompare op a b)) ∙ h) in
      let x = ra k.first k.a_is in
      let y = rb k.second k.b_is in
      let d = max k.first.depth k.second.depth + 1 in
      let text = between (form sc a).signed (signed_compare_sign op) (form sc b).signed in
      moved sc t 1 s.width d s.depth (comparison text) (form sc t)
      (form_roll sc (Expr-F.SignedCompare op a b) t (e.rolls-SignedCompare op a b)) k.deep.width k.deep.depth
      (comparison_again sc t d text (above_two 1 x.size y.size (lit< tt) (lit< tt) k.deep.low)
      (joined_head (form sc a).signed (signed_compare_sign op ++ (form sc b).signed) x.signed_head)
      (signed_inner sc a b t k.first.width k.second.width k.first.depth k.second.depth 1 (form sc a) (form sc b)
      (signed_compare_sign op) (S.Compare (plain_of op)) (signed_test op)
      (signed_tested op a b k.first.width k.second.width) x y))

  -- ---- pseudo-calls of two operands

  concat_case : (a b : Expr) → Reads sc ws a → Reads sc ws b → Reads sc ws (e.Concat a b)
  concat_case a b ra rb s h =
      let t = e.Concat a b in
      let k = two_is may_join (λ v w. v + w) false (shape_of ws a) (shape_of ws b) s
      (sym (shape_roll ws (Expr-F.Concat a b) t (e.rolls-Concat a b)) ∙ h) in
      let x = ra k.first k.a_is in
      let y = rb k.second k.b_is in
      let w = k.first.width in
      let v = k.second.width in
      let d = max k.first.depth k.second.depth + 1 in
      let few : w + v ≤ 16 = leb-true _ _ k.deep.holds in
      let some = x.size.some in
      let least : min (w + v) 255 ≡ w + v = omega arith in
      let text = call_of_two (codes "CONCAT") (form sc a) (form sc b) in
      let f : form sc t ≡ simple (w + v) text =
      form_roll sc (Expr-F.Concat a b) t (e.rolls-Concat a b)
      ∙ ap (λ (u : ℕ). simple (min (u + (form sc b).width) 255) text) x.width
      ∙ ap (λ (u : ℕ). simple (min (w + u) 255) text) y.width ∙ ap (λ (u : ℕ). simple u text) least in
      moved sc t (w + v) s.width d s.depth (simple (w + v) text) (form sc t) f k.deep.width k.deep.depth
      (call_again sc a b t w v k.first.depth k.second.depth (w + v) (form sc a) (form sc b) (codes "CONCAT") P.Concat
      word_concat (ap (λ (u : ℕ). item t u) least)
      (above_two (w + v) x.size y.size (omega arith) (omega arith) k.deep.low) x y)

  overflow_case : (op : OverflowOp) (a b : Expr) → Reads sc ws a → Reads sc ws b → Reads sc ws (e.Overflow op a b)
  overflow_case op a b ra rb s h =
      let t = e.Overflow op a b in
      let k = two_is same_width (λ v w. 1) false (shape_of ws a) (shape_of ws b) s
      (sym (shape_roll ws (Expr-F.Overflow op a b) t (e.rolls-Overflow op a b)) ∙ h) in
      let x = ra k.first k.a_is in
      let y = rb k.second k.b_is in
      let d = max k.first.depth k.second.depth + 1 in
      let text = call_of_two (overflow_word op) (form sc a) (form sc b) in
      moved sc t 1 s.width d s.depth (simple 1 text) (form sc t)
      (form_roll sc (Expr-F.Overflow op a b) t (e.rolls-Overflow op a b)) k.deep.width k.deep.depth
      (call_again sc a b t k.first.width k.second.width k.first.depth k.second.depth 1 (form sc a) (form sc b)
      (overflow_word op) (P.Overflow op) (word_overflow op) refl
      (above_two 1 x.size y.size (lit< tt) (lit< tt) k.deep.low) x y)

  -- ---- shifts

  shift_call : (op : ShiftOp) (a b : Expr) (s : Shape) (right : Shape → Shape → Bool)
      → TwoShape right left_width (shape_of ws a) (shape_of ws b) s
      → Reads sc ws a
      → Reads sc ws b
      → form sc (e.Shift op a b) ≡ simple (form sc a).width (call_of_two (shift_word op) (form sc a) (form sc b))
      → Again sc (e.Shift op a b) s.width s.depth (form sc (e.Shift op a b))
  shift_call op a b s right k ra rb f =
      let t = e.Shift op a b in
      let x = ra k.first k.a_is in
      let y = rb k.second k.b_is in
      let w = k.first.width in
      let text = call_of_two (shift_word op) (form sc a) (form sc b) in
      moved sc t w s.width (max k.first.depth k.second.depth + 1) s.depth (simple w text) (form sc t)
      (f ∙ ap (λ (u : ℕ). simple u text) x.width) k.deep.width k.deep.depth
      (call_again sc a b t w k.second.width k.first.depth k.second.depth w (form sc a) (form sc b) (shift_word op)
      (P.Shift op) (word_shift op) refl (above_two w x.size y.size x.size.some x.size.fits k.deep.low) x y)

  shift_by : (op : ShiftOp) (a b : Expr) (s : Shape) (small : Bool)
      → TwoShape (λ a b. true) left_width (shape_of ws a) (shape_of ws b) s
      → Reads sc ws a
      → Reads sc ws b
      → form sc (e.Shift op a b) ≡ shift_by_sign (cond small (shift_sign op) None) op (form sc a) (form sc b)
      → Again sc (e.Shift op a b) s.width s.depth (form sc (e.Shift op a b))
  shift_by op a b s false k ra rb f = shift_call op a b s (λ a b. true) k ra rb f
  shift_by H.Shl a b s true k ra rb f =
      compound_two a b (e.Shift H.Shl a b) s (λ a b. true) k (codes " << ") (S.Shift H.Shl) sign_left refl ra rb f
  shift_by H.Shr a b s true k ra rb f =
      compound_two a b (e.Shift H.Shr a b) s (λ a b. true) k (codes " >> ") (S.Shift H.Shr) sign_right refl ra rb f
  shift_by H.Sar a b s true k ra rb f = shift_call H.Sar a b s (λ a b. true) k ra rb f

  shift_case : (op : ShiftOp) (a b : Expr) → Reads sc ws a → Reads sc ws b → Reads sc ws (e.Shift op a b)
  shift_case op a b ra rb s h =
      shift_by op a b s (is_below (form sc b).constant (8 * (form sc a).width))
      (two_is (λ a b. true) left_width false (shape_of ws a) (shape_of ws b) s
      (sym (shape_roll ws (Expr-F.Shift op a b) (e.Shift op a b) (e.rolls-Shift op a b)) ∙ h))
      ra rb (form_roll sc (Expr-F.Shift op a b) (e.Shift op a b) (e.rolls-Shift op a b))

  -- ---- casts, parts and counts

  extend_case : (op : ExtendOp) (w : Width) (a : Expr) → Reads sc ws a → Reads sc ws (e.Extend op w a)
  extend_case op w a ra s h =
      let t = e.Extend op w a in
      let k = one_is (λ v. ltb v w.bytes) (λ v. w.bytes) (shape_of ws a) s
      (sym (shape_roll ws (Expr-F.Extend op w a) t (e.rolls-Extend op w a)) ∙ h) in
      let x = ra k.at k.is in
      let wider : k.at.width < w.bytes = ltb-true _ _ k.deep.holds in
      let most = w.to in
      let text = cast false w.bytes (extend_text op (form sc a)) in
      moved sc t w.bytes s.width (k.at.depth + 1) s.depth (simple w.bytes text) (form sc t)
      (form_roll sc (Expr-F.Extend op w a) t (e.rolls-Extend op w a)) k.deep.width k.deep.depth
      (simple_again sc t w.bytes (k.at.depth + 1) text (above_one w.bytes x.size w.from (omega arith) k.deep.low)
      (λ z. headed_paren _) (extend_operand sc op w a k.at.width k.at.depth (form sc a) x wider))

  part_case : (k : ℕ) (w : Width) (a : Expr) → Reads sc ws a → Reads sc ws (e.Part k w a)
  part_case k w a ra s h =
      let t = e.Part k w a in
      let i = one_is (is_part k w.bytes) (λ v. w.bytes) (shape_of ws a) s
      (sym (shape_roll ws (Expr-F.Part k w a) t (e.rolls-Part k w a)) ∙ h) in
      let x = ra i.at i.is in
      let both = and_parts (leb (k + w.bytes) i.at.width) (ltb w.bytes i.at.width) i.deep.holds in
      let all : k + w.bytes ≤ i.at.width = leb-true _ _ both.0 in
      let less : w.bytes < i.at.width = ltb-true _ _ both.1 in
      let most = w.to in
      moved sc t w.bytes s.width (i.at.depth + 1) s.depth (simple w.bytes (part_text k w.bytes (form sc a)))
      (form sc t) (form_roll sc (Expr-F.Part k w a) t (e.rolls-Part k w a)) i.deep.width i.deep.depth
      (simple_again sc t w.bytes (i.at.depth + 1) (part_text k w.bytes (form sc a))
      (above_one w.bytes x.size w.from (omega arith) i.deep.low) (part_head k w.bytes (form sc a))
      (part_operand sc k w a i.at.width i.at.depth (form sc a) x less all))

  count_case : (op : CountOp) (a : Expr) → Reads sc ws a → Reads sc ws (e.Count op a)
  count_case op a ra s h =
      let t = e.Count op a in
      let k = one_is (λ v. true) (λ v. 1) (shape_of ws a) s
      (sym (shape_roll ws (Expr-F.Count op a) t (e.rolls-Count op a)) ∙ h) in
      let x = ra k.at k.is in
      let text = count_word op ++ enclosed (form sc a).plain in
      moved sc t 1 s.width (k.at.depth + 1) s.depth (simple 1 text) (form sc t)
      (form_roll sc (Expr-F.Count op a) t (e.rolls-Count op a)) k.deep.width k.deep.depth
      (simple_again sc t 1 (k.at.depth + 1) text (above_one 1 x.size (lit< tt) (lit< tt) k.deep.low)
      (count_head op (enclosed (form sc a).plain))
      (λ n c rest le stop. count_read sc op a k.at.width k.at.depth (form sc a) x n c rest le))

  -- ---- constants

  const_case : (k : Word) → Reads sc ws (e.Const k)
  const_case k s h =
      let t = e.Const k in
      let w = k.width.bytes in
      let most = k.width.to in
      let l = leaf_is w (Some k) s (sym (shape_roll ws (Expr-F.Const k) t (e.rolls-Const k)) ∙ h) in
      moved sc t w s.width 1 s.depth (constant w k.value) (form sc t)
      (form_roll sc (Expr-F.Const k) t (e.rolls-Const k)) l.0 l.1
      (as_constant sc t w 1 k.value (simple_again sc t w 1 (cast false w (48 ∷ 120 ∷ (hex k.value ++ suffix k.value)))
      (leaf_size w k.width.from (omega arith)) (λ z. headed_paren _) (const_operand sc k)))

-- ---- variables

pub name_headed : (bs : List ℕ) → NameHead bs → Headed bs
unfolding after type_at unary_at right_at division_at
name_headed _ (of_local_name bs) =
    record {
      begun = record { not_typed = refl; not_right = refl; not_endless = refl; not_close = refl };
      not_unary = refl;
      not_hex = refl;
    }
name_headed _ (of_model bs) = record {
  begun = record { not_typed = refl; not_right = refl; not_endless = refl; not_close = refl };
  not_unary = refl;
  not_hex = refl;
}
name_headed _ (of_entry bs) = record {
  begun = record { not_typed = refl; not_right = refl; not_endless = refl; not_close = refl };
  not_unary = refl;
  not_hex = refl;
}

-- no word of an operand
record NotWord (bs : List ℕ) : Type 0 where
  not_paren : after (codes "(") bs ≡ None
  not_pair : pair_at bs ≡ None
  not_count : count_at bs ≡ None
  not_sub : after (codes "SUB") bs ≡ None

name_not_word : (bs : List ℕ) → NameHead bs → NotWord bs
unfolding after pair_at count_at
name_not_word _ (of_local_name bs) = record { not_paren = refl; not_pair = refl; not_count = refl; not_sub = refl }
name_not_word _ (of_model bs) = record { not_paren = refl; not_pair = refl; not_count = refl; not_sub = refl }
name_not_word _ (of_entry bs) = record { not_paren = refl; not_pair = refl; not_count = refl; not_sub = refl }

-- the operand that is a name
name_operand : (sc : Scope) (n k c : ℕ) (rest : List ℕ) → Named sc k (variable sc k).name → IsStop c
    → operand_at sc (suc n) ((variable sc k).name ++ c ∷ rest)
    ≡ Some (record { tree = e.Var k; width = (variable sc k).width; signed = (variable sc k).signed }, c ∷ rest)
unfolding operand_at operand_by atom_by named_at
name_operand sc n k c rest named stop =
    let b = name_not_word _ (named.begins (c ∷ rest)) in
    let r = named.again c rest stop in
    rw (b.not_paren, b.not_pair, b.not_count, b.not_sub, r) refl

flagged : (sc : Scope) (k : ℕ) (b : Bool)
    → Named sc k (variable sc k).name
    → (variable sc k).signed ≡ b
    → (n c : ℕ) (rest : List ℕ)
    → 1 ≤ n
    → IsStop c
    → operand_at sc n ((variable sc k).name ++ c ∷ rest)
    ≡ Some (record { tree = e.Var k; width = (variable sc k).width; signed = b }, c ∷ rest)
flagged sc k b named flag zero c rest le stop = absurd (omega arith)
flagged sc k b named flag (suc n) c rest le stop =
    name_operand sc n k c rest named stop
    ∙ ap (λ (x : Bool). Some (record { tree = e.Var k; width = (variable sc k).width; signed = x }, c ∷ rest)) flag

signed_operand : (sc : Scope) (k : ℕ)
    → Named sc k (variable sc k).name
    → (variable sc k).signed ≡ true
    → Sized (variable sc k).width 1
    → Operand sc (e.Var k) (variable sc k).width 1 (cast false (variable sc k).width (variable sc k).name)
signed_operand sc k named flag size zero c rest le stop = absurd (omega arith)
signed_operand sc k named flag size (suc n) c rest le stop =
    let v = variable sc k in
    cast_of sc n v.width v.name (as_signed (item (e.Var k) v.width)) c rest size.fits
    (name_headed _ (named.begins (c ∷ rest))).not_hex (flagged sc k true named flag n c rest (omega arith) stop)
    ∙ ap (λ (x : Item). Some (x, c ∷ rest))
    (resize_same v.width (as_signed (item (e.Var k) v.width)) size.some size.fits refl)

var_flag : (sc : Scope) (k : ℕ) (b : Bool)
    → Named sc k (variable sc k).name
    → (variable sc k).signed ≡ b
    → Sized (variable sc k).width 1
    → Again sc (e.Var k) (variable sc k).width 1 (variable_form (variable sc k))
var_flag sc k false named flag size =
    let v = variable sc k in
    rw flag (simple_again sc (e.Var k) v.width 1 v.name size (λ z. name_headed _ (named.begins z))
    (λ n c rest le stop. flagged sc k false named flag n c rest (omega arith) stop))
var_flag sc k true named flag size =
    let v = variable sc k in
    let operand = signed_operand sc k named flag size in
    let alone = alone_of sc (e.Var k) v.width 1 (cast false v.width v.name) (λ z. headed_paren _) operand in
    let made : Again sc (e.Var k) v.width 1
    (record {
      width = v.width;
      constant = None;
      plain = cast false v.width v.name;
      operand = cast false v.width v.name;
      signed = v.name;
      test = cast false v.width v.name;
    }) = record {
      size = size;
      width = refl;
      operand = operand;
      signed = λ n c rest le stop. flagged sc k true named flag n c rest (omega arith) stop;
      plain = alone;
      test = alone;
      operand_head = λ z. headed_paren _;
      signed_head = λ z. name_headed _ (named.begins z);
      plain_head = λ z. (headed_paren _).begun;
      test_head = λ z. (headed_paren _).begun;
    } in
    rw flag made

-- what the shape of a variable says
pub record Numbered (sc : Scope) (ws : ℕ → ℕ) (v : ℕ) : Type 0 where
  pub low : v < 2 ^ 32
  pub some : 0 < ws v

pub number_is : (ws : ℕ → ℕ) (sc : Scope) (v : ℕ) → (ltb v (2 ^ 32) && ltb 0 (ws v)) ≡ true → Numbered sc ws v
number_is ws sc v h = let both = and_parts (ltb v (2 ^ 32)) (ltb 0 (ws v)) h in
    record { low = ltb-true _ _ both.0; some = ltb-true _ _ both.1 }

var_shape : (b : Bool) (w : ℕ) (s : Shape) → cond b (leaf w None) None ≡ Some s → (b ≡ true) × (leaf w None ≡ Some s)
var_shape true w s h = (refl, h)
var_shape false w s h = absurd cc

pub named_by : (sc : Scope) (ws : ℕ → ℕ) (v : ℕ) → Context sc ws → Numbered sc ws v → Named sc v (variable sc v).name
named_by sc ws v ok n = variable_named sc v ok.params n.low (subst (λ (w : ℕ). 0 < w) (ok.widths v) n.some)

var_case : (sc : Scope) (ws : ℕ → ℕ) (k : ℕ) → Context sc ws → Reads sc ws (e.Var k)
var_case sc ws k ok s h =
    let t = e.Var k in
    let v = variable sc k in
    let both = var_shape (ltb k (2 ^ 32) && ltb 0 (ws k)) (ws k) s
    (sym (shape_roll ws (Expr-F.Var k) t (e.rolls-Var k)) ∙ h) in
    let n = number_is ws sc k both.0 in
    let l = leaf_is (ws k) None s both.1 in
    let some : 0 < v.width = subst (λ (w : ℕ). 0 < w) (ok.widths k) n.some in
    moved sc t v.width s.width 1 s.depth (variable_form v) (form sc t) (form_roll sc (Expr-F.Var k) t (e.rolls-Var k))
    (l.0 ∙ ok.widths k) l.1
    (var_flag sc k v.signed (named_by sc ws k ok n) refl (leaf_size v.width some (ok.fits k)))

-- ---- all of them

layer_reads : (sc : Scope) (ws : ℕ → ℕ)
    → Context sc ws
    → {A : Type 0} (f : A → Expr)
    → ((a : A) → Reads sc ws (f a))
    → (l : Expr-F A)
    → Reads sc ws (roll-Expr (map-Expr A Expr f l))
layer_reads sc ws ok f h (Expr-F.Const k) = subst (Reads sc ws) (sym (e.rolls-Const k)) (const_case sc ws k)
layer_reads sc ws ok f h (Expr-F.Var k) = subst (Reads sc ws) (sym (e.rolls-Var k)) (var_case sc ws k ok)
layer_reads sc ws ok f h (Expr-F.Unary op a) =
    subst (Reads sc ws) (sym (e.rolls-Unary op (f a))) (unary_case sc ws op (f a) (h a))
layer_reads sc ws ok f h (Expr-F.Arithmetic op a b) =
    subst (Reads sc ws) (sym (e.rolls-Arithmetic op (f a) (f b))) (arithmetic_case sc ws op (f a) (f b) (h a) (h b))
layer_reads sc ws ok f h (Expr-F.Division op a b) =
    subst (Reads sc ws) (sym (e.rolls-Division op (f a) (f b))) (division_case sc ws op (f a) (f b) (h a) (h b))
layer_reads sc ws ok f h (Expr-F.SignedDivision op a b) =
    subst (Reads sc ws) (sym (e.rolls-SignedDivision op (f a) (f b)))
    (signed_division_case sc ws op (f a) (f b) (h a) (h b))
layer_reads sc ws ok f h (Expr-F.Shift op a b) =
    subst (Reads sc ws) (sym (e.rolls-Shift op (f a) (f b))) (shift_case sc ws op (f a) (f b) (h a) (h b))
layer_reads sc ws ok f h (Expr-F.Compare op a b) =
    subst (Reads sc ws) (sym (e.rolls-Compare op (f a) (f b))) (compare_case sc ws op (f a) (f b) (h a) (h b))
layer_reads sc ws ok f h (Expr-F.SignedCompare op a b) =
    subst (Reads sc ws) (sym (e.rolls-SignedCompare op (f a) (f b)))
    (signed_compare_case sc ws op (f a) (f b) (h a) (h b))
layer_reads sc ws ok f h (Expr-F.Extend op w a) =
    subst (Reads sc ws) (sym (e.rolls-Extend op w (f a))) (extend_case sc ws op w (f a) (h a))
layer_reads sc ws ok f h (Expr-F.Part k w a) =
    subst (Reads sc ws) (sym (e.rolls-Part k w (f a))) (part_case sc ws k w (f a) (h a))
layer_reads sc ws ok f h (Expr-F.Concat a b) =
    subst (Reads sc ws) (sym (e.rolls-Concat (f a) (f b))) (concat_case sc ws (f a) (f b) (h a) (h b))
layer_reads sc ws ok f h (Expr-F.Overflow op a b) =
    subst (Reads sc ws) (sym (e.rolls-Overflow op (f a) (f b))) (overflow_case sc ws op (f a) (f b) (h a) (h b))
layer_reads sc ws ok f h (Expr-F.Count op a) =
    subst (Reads sc ws) (sym (e.rolls-Count op (f a))) (count_case sc ws op (f a) (h a))

-- an expression that has a shape is read again from each of its texts
pub reads : (sc : Scope) (ws : ℕ → ℕ) → Context sc ws → (t : Expr) → Reads sc ws t
reads sc ws ok t = ind-Expr (Reads sc ws)
    (λ l y is. subst (λ (z : Expr-F Expr). Reads sc ws (roll-Expr z)) is
    (layer_reads sc ws ok (λ p. p.0) (λ p. p.1) y)) t
