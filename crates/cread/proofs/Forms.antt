-- What a shape says, and how the texts of the kinds of expressions are read.
use Rattle.std.proofs.Common.{◌≡◌, ℕ, zero, suc, ◌+◌, ◌*◌, ◌<◌, ◌≤◌, max, Bool, true, false, cond, eqb, ltb, List, [], ◌∷◌, ◌++◌, Option, Some, None, refl, sym, ap, ◌∙◌, arith, append_assoc}
use Rattle.std.specs.Prelude.{codes}
use Rattle.std.proofs.lemmas.Bool.{lt-ltb, le-ltb, ltb-true}
use Rattle.bits_core.specs.declared.word.Width.{Width}
use Rattle.cmeaning.specs.declared.shape.Shape.{Shape}
use Rattle.cmeaning.specs.Shape.{above, one_shape, two_shape}
use Rattle.cmeaning.specs.declared.tree.UnaryOp.{UnaryOp}
use Rattle.cmeaning.specs.declared.tree.UnaryOp.TheVariants as U
use Rattle.cmeaning.specs.declared.tree.ArithmeticOp.{ArithmeticOp}
use Rattle.cmeaning.specs.declared.tree.ArithmeticOp.TheVariants as A
use Rattle.cmeaning.specs.declared.tree.DivisionOp.{DivisionOp}
use Rattle.cmeaning.specs.declared.tree.DivisionOp.TheVariants as D
use Rattle.cmeaning.specs.declared.tree.ShiftOp.{ShiftOp}
use Rattle.cmeaning.specs.declared.tree.ShiftOp.TheVariants as H
use Rattle.cmeaning.specs.declared.tree.CompareOp.{CompareOp}
use Rattle.cmeaning.specs.declared.tree.CompareOp.TheVariants as C
use Rattle.cmeaning.specs.declared.tree.ExtendOp.TheVariants.{Zext, Sext}
use Rattle.cmeaning.specs.declared.tree.OverflowOp.{OverflowOp}
use Rattle.cmeaning.specs.declared.tree.OverflowOp.TheVariants as O
use Rattle.cmeaning.specs.declared.tree.CountOp.{CountOp}
use Rattle.cmeaning.specs.declared.tree.CountOp.TheVariants as N
use Rattle.cmeaning.specs.declared.tree.Expr.{Expr}
use Rattle.cmeaning.specs.declared.tree.Expr.TheVariants as e
use Rattle.ctext.specs.Names.{Scope}
use Rattle.ctext.specs.Expressions.{Form, enclosed, between, call_of_two, unary_sign, arithmetic_sign, division_sign, compare_sign, shift_word, overflow_word, count_word}
use Rattle.cread.specs.declared.item.Item.{Item}
use Rattle.cread.specs.declared.item.Sign.{Sign}
use Rattle.cread.specs.declared.item.Sign.TheVariants as S
use Rattle.cread.specs.declared.item.Pair.{Pair}
use Rattle.cread.specs.declared.item.Pair.TheVariants as P
use Rattle.cread.specs.Words.{after}
use Rattle.cread.specs.Names.{width_by, type_at}
use Rattle.cread.specs.Expressions.{unary_at, sign_at, test_at, pair_at, count_at, item, as_signed, resize, joined, paired, inner_by, pair_by, count_by, atom_by, operand_by, operand_at}
use Rattle.cread.specs.Statements.{right_at, division_at}
use Rattle.cread.proofs.Naming.{at_close, at_comma}
use Rattle.cread.proofs.Widths.{width_again}
use Rattle.cread.proofs.Again.{Headed, Again, AllHeaded, AllBegun, two_of}

-- ---- what a shape says

pub record Deep (right : Bool) (w d : ℕ) (s : Shape) : Type 0 where
  pub holds : right ≡ true
  pub low : d < 64
  pub width : s.width ≡ w
  pub depth : s.depth ≡ d + 1

abbrev made : ℕ → ℕ → Bool → Shape
made w d c = record { width = w; depth = d + 1; constant = None; comparison = c }

some_shape : (x s : Shape) → Some x ≡ Some s → x ≡ s
some_shape x s h = cc

deep_at : (b : Bool) (w d : ℕ) (c : Bool) (s : Shape)
    → ltb d 64 ≡ b
    → cond b (Some (made w d c)) None ≡ Some s
    → Deep true w d s
deep_at true w d c s low h =
    let k = some_shape (made w d c) s h in
    record {
      holds = refl;
      low = ltb-true _ _ low;
      width = ap (λ (x : Shape). x.width) (sym k);
      depth = ap (λ (x : Shape). x.depth) (sym k);
    }
deep_at false w d c s low h = absurd cc

deep_is : (right : Bool) (w d : ℕ) (c : Bool) (s : Shape) → above right w d c ≡ Some s → Deep right w d s
deep_is true w d c s h = deep_at (ltb d 64) w d c s refl h
deep_is false w d c s h = absurd cc

pub record OneShape (right : ℕ → Bool) (w : ℕ → ℕ) (a : Option Shape) (s : Shape) : Type 0 where
  pub at : Shape
  pub is : a ≡ Some at
  pub deep : Deep (right at.width) (w at.width) at.depth s

pub one_is : (right : ℕ → Bool) (w : ℕ → ℕ) (a : Option Shape) (s : Shape)
    → one_shape right w a ≡ Some s
    → OneShape right w a s
one_is right w None s h = absurd cc
one_is right w (Some a) s h = record {
  at = a;
  is = refl;
  deep = deep_is (right a.width) (w a.width) a.depth false s h;
}

pub record TwoShape (right : Shape → Shape → Bool) (w : ℕ → ℕ → ℕ) (a b : Option Shape) (s : Shape) : Type 0 where
  pub first : Shape
  pub second : Shape
  pub a_is : a ≡ Some first
  pub b_is : b ≡ Some second
  pub deep : Deep (right first second) (w first.width second.width) (max first.depth second.depth) s

pub two_is : (right : Shape → Shape → Bool) (w : ℕ → ℕ → ℕ) (c : Bool) (a b : Option Shape) (s : Shape)
    → two_shape right w c a b ≡ Some s
    → TwoShape right w a b s
two_is right w c None b s h = absurd cc
two_is right w c (Some a) None s h = absurd cc
two_is right w c (Some a) (Some b) s h =
    record {
      first = a;
      second = b;
      a_is = refl;
      b_is = refl;
      deep = deep_is (right a b) (w a.width b.width) (max a.depth b.depth) c s h;
    }

-- ---- casts

pub resize_zext : (w : Width) (t : Expr) (v : ℕ)
    → v < w.bytes
    → resize (width_by w.bytes) (item t v) ≡ item (e.Extend Zext w t) w.bytes
unfolding resize
resize_zext w t v lt =
    let same = width_again w in
    let not_same : eqb w.bytes v ≡ false = grind (arith, lt) in
    let not_below : ltb w.bytes v ≡ false = le-ltb _ _ (omega (arith, lt)) in
    rw (same, not_same, not_below) refl

pub resize_sext : (w : Width) (t : Expr) (v : ℕ)
    → v < w.bytes
    → resize (width_by w.bytes) (as_signed (item t v)) ≡ item (e.Extend Sext w t) w.bytes
unfolding resize
resize_sext w t v lt =
    let same = width_again w in
    let not_same : eqb w.bytes v ≡ false = grind (arith, lt) in
    let not_below : ltb w.bytes v ≡ false = le-ltb _ _ (omega (arith, lt)) in
    rw (same, not_same, not_below) refl

pub resize_part : (w : Width) (t : Expr) (v : ℕ)
    → w.bytes < v
    → resize (width_by w.bytes) (item t v) ≡ item (e.Part 0 w t) w.bytes
unfolding resize
resize_part w t v lt =
    let same = width_again w in
    let not_same : eqb w.bytes v ≡ false = grind (arith, lt) in
    let below : ltb w.bytes v ≡ true = lt-ltb _ _ lt in
    rw (same, not_same, below) refl

-- ---- signs

pub unary_head : (op : UnaryOp) (text : List ℕ) → AllBegun (unary_sign op ++ text)
unfolding after type_at right_at division_at
unary_head U.Neg text z = record { not_typed = refl; not_right = refl; not_endless = refl; not_close = refl }
unary_head U.Not text z = record { not_typed = refl; not_right = refl; not_endless = refl; not_close = refl }

pub unary_read : (op : UnaryOp) (more : List ℕ) → unary_at (unary_sign op ++ more) ≡ Some (op, more)
unfolding unary_at after
unary_read U.Neg more = refl
unary_read U.Not more = refl

-- a sign between two operands
pub record IsSign (mark : List ℕ) (s : Sign) : Type 0 where
  pub tail : List ℕ
  pub is : mark ≡ 32 ∷ tail
  pub read : (more : List ℕ) → sign_at (mark ++ more) ≡ Some (s, more)

pub sign_arithmetic : (op : ArithmeticOp) → IsSign (arithmetic_sign op) (S.Arithmetic op)
unfolding sign_at after
sign_arithmetic A.Add = record { tail = codes "+ "; is = refl; read = λ more. refl }
sign_arithmetic A.Sub = record { tail = codes "- "; is = refl; read = λ more. refl }
sign_arithmetic A.Mul = record { tail = codes "* "; is = refl; read = λ more. refl }
sign_arithmetic A.And = record { tail = codes "& "; is = refl; read = λ more. refl }
sign_arithmetic A.Or = record { tail = codes "| "; is = refl; read = λ more. refl }
sign_arithmetic A.Xor = record { tail = codes "^ "; is = refl; read = λ more. refl }

pub sign_division : (op : DivisionOp) → IsSign (division_sign op) (S.Division op)
unfolding sign_at after
sign_division D.Div = record { tail = codes "/ "; is = refl; read = λ more. refl }
sign_division D.Rem = record { tail = codes "% "; is = refl; read = λ more. refl }

pub sign_left : IsSign (codes " << ") (S.Shift H.Shl)
unfolding sign_at test_at after
sign_left = record { tail = codes "<< "; is = refl; read = λ more. refl }

pub sign_right : IsSign (codes " >> ") (S.Shift H.Shr)
unfolding sign_at test_at after
sign_right = record { tail = codes ">> "; is = refl; read = λ more. refl }

pub sign_compare : (op : CompareOp) → IsSign (compare_sign op) (S.Compare op)
unfolding sign_at test_at after
sign_compare C.Eq = record { tail = codes "== "; is = refl; read = λ more. refl }
sign_compare C.Ne = record { tail = codes "!= "; is = refl; read = λ more. refl }
sign_compare C.Lt = record { tail = codes "< "; is = refl; read = λ more. refl }
sign_compare C.Le = record { tail = codes "<= "; is = refl; read = λ more. refl }

-- two texts with a sign between
pub joined_read : (sc : Scope) (n : ℕ) (x y : Item) (a b mark : List ℕ) (s : Sign) (c : ℕ) (rest : List ℕ)
    → IsSign mark s
    → AllHeaded a
    → ((more : List ℕ) → operand_at sc n (a ++ 32 ∷ more) ≡ Some (x, 32 ∷ more))
    → operand_at sc n (b ++ c ∷ rest) ≡ Some (y, c ∷ rest)
    → inner_by (operand_at sc n) (between a mark b ++ c ∷ rest) ≡ Some (joined s x y, c ∷ rest)
joined_read sc n x y a b mark s c rest sign head first second =
    let grouped : (a ++ (mark ++ b)) ++ c ∷ rest ≡ a ++ (mark ++ (b ++ c ∷ rest)) = simp append_assoc in
    let begins : mark ++ (b ++ c ∷ rest) ≡ 32 ∷ (sign.tail ++ (b ++ c ∷ rest)) =
    ap (λ (m : List ℕ). m ++ (b ++ c ∷ rest)) sign.is in
    let read : operand_at sc n (a ++ (mark ++ (b ++ c ∷ rest))) ≡ Some (x, mark ++ (b ++ c ∷ rest)) =
    rw begins (first (sign.tail ++ (b ++ c ∷ rest))) in
    ap (inner_by (operand_at sc n)) grouped
    ∙ two_of (operand_at sc n) (a ++ (mark ++ (b ++ c ∷ rest))) x (mark ++ (b ++ c ∷ rest)) s (b ++ c ∷ rest) y
    (c ∷ rest) (head (mark ++ (b ++ c ∷ rest))) read (sign.read (b ++ c ∷ rest)) second

pub joined_head : (a b : List ℕ) → AllHeaded a → AllBegun (a ++ b)
joined_head a b head z = let grouped = append_assoc a b z in rw grouped (head (b ++ z)).begun

-- ---- words before operands

pub record IsPairWord (word : List ℕ) (p : Pair) : Type 0 where
  pub not_paren : (z : List ℕ) → after (codes "(") (word ++ z) ≡ None
  pub head : (z : List ℕ) → Headed (word ++ z)
  pub read : (more : List ℕ) → pair_at (word ++ 40 ∷ more) ≡ Some (p, more)

pub word_shift : (op : ShiftOp) → IsPairWord (shift_word op) (P.Shift op)
unfolding after pair_at type_at unary_at right_at division_at
word_shift H.Shl = record {
  not_paren = λ z. refl;
  head = λ z. record {
    begun = record { not_typed = refl; not_right = refl; not_endless = refl; not_close = refl };
    not_unary = refl;
    not_hex = refl;
  };
  read = λ more. refl;
}
word_shift H.Shr = record {
  not_paren = λ z. refl;
  head = λ z. record {
    begun = record { not_typed = refl; not_right = refl; not_endless = refl; not_close = refl };
    not_unary = refl;
    not_hex = refl;
  };
  read = λ more. refl;
}
word_shift H.Sar = record {
  not_paren = λ z. refl;
  head = λ z. record {
    begun = record { not_typed = refl; not_right = refl; not_endless = refl; not_close = refl };
    not_unary = refl;
    not_hex = refl;
  };
  read = λ more. refl;
}

pub word_concat : IsPairWord (codes "CONCAT") P.Concat
unfolding after pair_at type_at unary_at right_at division_at
word_concat = record {
  not_paren = λ z. refl;
  head = λ z. record {
    begun = record { not_typed = refl; not_right = refl; not_endless = refl; not_close = refl };
    not_unary = refl;
    not_hex = refl;
  };
  read = λ more. refl;
}

pub word_overflow : (op : OverflowOp) → IsPairWord (overflow_word op) (P.Overflow op)
unfolding after pair_at type_at unary_at right_at division_at
word_overflow O.Carry = record {
  not_paren = λ z. refl;
  head = λ z. record {
    begun = record { not_typed = refl; not_right = refl; not_endless = refl; not_close = refl };
    not_unary = refl;
    not_hex = refl;
  };
  read = λ more. refl;
}
word_overflow O.SCarry = record {
  not_paren = λ z. refl;
  head = λ z. record {
    begun = record { not_typed = refl; not_right = refl; not_endless = refl; not_close = refl };
    not_unary = refl;
    not_hex = refl;
  };
  read = λ more. refl;
}
word_overflow O.SBorrow = record {
  not_paren = λ z. refl;
  head = λ z. record {
    begun = record { not_typed = refl; not_right = refl; not_endless = refl; not_close = refl };
    not_unary = refl;
    not_hex = refl;
  };
  read = λ more. refl;
}

pub pair_head : (word more : List ℕ) (p : Pair) → IsPairWord word p → AllHeaded (word ++ more)
pair_head word more p is z = let grouped = append_assoc word more z in rw grouped (is.head (more ++ z))

pub pair_read : (sc : Scope) (word : List ℕ) (p : Pair) (a b : Expr) (v w d g : ℕ) (f h : Form)
    → IsPairWord word p
    → Again sc a v d f
    → Again sc b w g h
    → (n c : ℕ) (rest : List ℕ)
    → 3 * (max d g + 1) ≤ n
    → operand_at sc n (call_of_two word f h ++ c ∷ rest) ≡ Some (paired p (item a v) (item b w), c ∷ rest)
unfolding operand_at operand_by atom_by pair_by after
pair_read sc word p a b v w d g f h is x y zero c rest le = absurd (omega arith)
pair_read sc word p a b v w d g f h is x y (suc n) c rest le =
    let last = h.plain ++ 41 ∷ c ∷ rest in
    let mid = f.plain ++ 44 ∷ 32 ∷ last in
    let grouped : call_of_two word f h ++ c ∷ rest ≡ word ++ 40 ∷ mid = simp append_assoc in
    let first = x.plain n 44 (32 ∷ last) (omega arith) at_comma in
    let second = y.plain n 41 (c ∷ rest) (omega arith) at_close in
    rw (grouped, is.not_paren (40 ∷ mid), is.read mid, first, second) refl

pub count_head : (op : CountOp) (text : List ℕ) → AllHeaded (count_word op ++ text)
unfolding after type_at unary_at right_at division_at
count_head N.Popcount text z = record {
  begun = record { not_typed = refl; not_right = refl; not_endless = refl; not_close = refl };
  not_unary = refl;
  not_hex = refl;
}
count_head N.Lzcount text z = record {
  begun = record { not_typed = refl; not_right = refl; not_endless = refl; not_close = refl };
  not_unary = refl;
  not_hex = refl;
}

pub count_read : (sc : Scope) (op : CountOp) (a : Expr) (w d : ℕ) (f : Form) → Again sc a w d f
    → (n c : ℕ) (rest : List ℕ)
    → 3 * (d + 1) ≤ n
    → operand_at sc n ((count_word op ++ enclosed f.plain) ++ c ∷ rest) ≡ Some (item (e.Count op a) 1, c ∷ rest)
unfolding operand_at operand_by atom_by pair_at count_at count_by after
count_read sc op a w d f x zero c rest le = absurd (omega arith)
count_read sc N.Popcount a w d f x (suc n) c rest le =
    let grouped : (f.plain ++ 41 ∷ []) ++ c ∷ rest ≡ f.plain ++ 41 ∷ c ∷ rest =
    append_assoc f.plain (41 ∷ []) (c ∷ rest) in
    let inside = x.plain n 41 (c ∷ rest) (omega arith) at_close in
    rw (grouped, inside) refl
count_read sc N.Lzcount a w d f x (suc n) c rest le =
    let grouped : (f.plain ++ 41 ∷ []) ++ c ∷ rest ≡ f.plain ++ 41 ∷ c ∷ rest =
    append_assoc f.plain (41 ∷ []) (c ∷ rest) in
    let inside = x.plain n 41 (c ∷ rest) (omega arith) at_close in
    rw (grouped, inside) refl
