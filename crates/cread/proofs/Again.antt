-- The text of an expression is read again, whatever may follow it: the parts that the kinds of expressions share.
use Rattle.std.proofs.Common.{◌≡◌, ℕ, zero, suc, ◌+◌, ◌*◌, ◌<◌, ◌≤◌, true, false, eqb, List, [], ◌∷◌, ◌++◌, Some, None, refl, sym, ap, ◌∙◌, arith, append_assoc}
use Rattle.std.specs.Prelude.{codes}
use Rattle.cmeaning.specs.declared.tree.Expr.{Expr}
use Rattle.ctext.specs.Names.{Scope, type_text}
use Rattle.ctext.specs.Expressions.{Form, cast, enclosed, compound, simple, comparison}
use Rattle.cread.specs.declared.item.Item.{Item}
use Rattle.cread.specs.declared.item.Sign.{Sign}
use Rattle.cread.specs.Words.{after}
use Rattle.cread.specs.Names.{width_by, type_at}
use Rattle.cread.specs.Expressions.{unary_at, sign_at, test_at, item, as_signed, resize, joined, Reader, inner_by, cast_by, paren_by, operand_by, operand_at}
use Rattle.cread.specs.Statements.{right_at, division_at}
use Rattle.cread.proofs.Naming.{IsStop, IsEnd, at_close, at_comma, at_semi, stop_of}
use Rattle.cread.proofs.Widths.{type_again, width_bytes}

pub end_sign : {c : ℕ} (rest : List ℕ) → IsEnd c → sign_at (c ∷ rest) ≡ None
unfolding sign_at test_at after
end_sign rest at_close = refl
end_sign rest at_comma = refl
end_sign rest at_semi = refl

-- what begins neither like a type nor like a memory access, a call or a division, nor like the 1 of an endless loop
pub record Begun (bs : List ℕ) : Type 0 where
  pub not_typed : type_at bs ≡ None
  pub not_right : right_at bs ≡ None
  pub not_endless : after (codes "1) {\n") bs ≡ None
  pub not_close : after (codes ")") bs ≡ None

-- the same, and with no sign and no digit
pub record Headed (bs : List ℕ) : Type 0 where
  pub begun : Begun bs
  pub not_unary : unary_at bs ≡ None
  pub not_hex : after (codes "0x") bs ≡ None

pub headed_paren : (bs : List ℕ) → Headed (40 ∷ bs)
unfolding after unary_at type_at right_at division_at
headed_paren bs = record {
  begun = record { not_typed = refl; not_right = refl; not_endless = refl; not_close = refl };
  not_unary = refl;
  not_hex = refl;
}

pub record Sized (w d : ℕ) : Type 0 where
  pub some : 0 < w
  pub fits : w < 17
  pub deep : 0 < d
  pub low : d ≤ 64

module _ (sc : Scope) where
  -- w: its width, d: its depth
  pub record Again (t : Expr) (w d : ℕ) (f : Form) : Type 0 where
    pub size : Sized w d
    pub width : f.width ≡ w
    pub operand : (n c : ℕ) (rest : List ℕ)
        → 3 * d ≤ n
        → IsStop c
        → operand_at sc n (f.operand ++ c ∷ rest) ≡ Some (item t w, c ∷ rest)
    pub signed : (n c : ℕ) (rest : List ℕ)
        → 3 * d + 1 ≤ n
        → IsStop c
        → operand_at sc n (f.signed ++ c ∷ rest) ≡ Some (as_signed (item t w), c ∷ rest)
    pub plain : (n c : ℕ) (rest : List ℕ)
        → 3 * d ≤ n
        → IsEnd c
        → inner_by (operand_at sc n) (f.plain ++ c ∷ rest) ≡ Some (item t w, c ∷ rest)
    pub test : (n c : ℕ) (rest : List ℕ)
        → 3 * d ≤ n
        → IsEnd c
        → inner_by (operand_at sc n) (f.test ++ c ∷ rest) ≡ Some (item t w, c ∷ rest)
    pub operand_head : (z : List ℕ) → Headed (f.operand ++ z)
    pub signed_head : (z : List ℕ) → Headed (f.signed ++ z)
    pub plain_head : (z : List ℕ) → Begun (f.plain ++ z)
    pub test_head : (z : List ℕ) → Begun (f.test ++ z)

-- what an operand is alone
pub inner_of : (sub : Reader) (bs : List ℕ) (x : Item) (c : ℕ) (rest : List ℕ)
    → Headed bs
    → sub bs ≡ Some (x, c ∷ rest)
    → IsEnd c
    → inner_by sub bs ≡ Some (x, c ∷ rest)
unfolding inner_by
inner_of sub bs x c rest head is end = let s = end_sign rest end in rw (head.not_unary, is, s) refl

-- two operands
pub two_of : (sub : Reader) (bs : List ℕ) (x : Item) (more : List ℕ) (s : Sign) (second : List ℕ) (y : Item)
    (rest : List ℕ)
    → Headed bs
    → sub bs ≡ Some (x, more)
    → sign_at more ≡ Some (s, second)
    → sub second ≡ Some (y, rest)
    → inner_by sub bs ≡ Some (joined s x y, rest)
unfolding inner_by
two_of sub bs x more s second y rest head a sign b = rw (head.not_unary, a, sign, b) refl

pub paren_of : (sc : Scope) (n : ℕ) (text : List ℕ) (x : Item) (c : ℕ) (rest : List ℕ)
    → type_at (text ++ 41 ∷ c ∷ rest) ≡ None
    → inner_by (operand_at sc n) (text ++ 41 ∷ c ∷ rest) ≡ Some (x, 41 ∷ c ∷ rest)
    → operand_at sc (suc n) (enclosed text ++ c ∷ rest) ≡ Some (x, c ∷ rest)
unfolding operand_at operand_by after paren_by
paren_of sc n text x c rest head is =
    let grouped : (text ++ 41 ∷ []) ++ c ∷ rest ≡ text ++ 41 ∷ c ∷ rest =
    append_assoc text (41 ∷ []) (c ∷ rest) in rw (grouped, head, is) refl

pub cast_of : (sc : Scope) (n w : ℕ) (text : List ℕ) (x : Item) (c : ℕ) (rest : List ℕ)
    → w < 17
    → after (codes "0x") (text ++ c ∷ rest) ≡ None
    → operand_at sc n (text ++ c ∷ rest) ≡ Some (x, c ∷ rest)
    → operand_at sc (suc n) (cast false w text ++ c ∷ rest) ≡ Some (resize (width_by w) x, c ∷ rest)
unfolding operand_at operand_by after paren_by cast_by
cast_of sc n w text x c rest small head is =
    let grouped : (type_text false w ++ 41 ∷ text) ++ c ∷ rest ≡ type_text false w ++ 41 ∷ (text ++ c ∷ rest) =
    append_assoc (type_text false w) (41 ∷ text) (c ∷ rest) in
    let t = type_again false w 41 (text ++ c ∷ rest) small refl in
    rw (grouped, t, head, is) refl

pub signed_of : (sc : Scope) (n w : ℕ) (text : List ℕ) (x : Item) (c : ℕ) (rest : List ℕ)
    → w < 17
    → operand_at sc n (text ++ c ∷ rest) ≡ Some (x, c ∷ rest)
    → operand_at sc (suc n) (cast true w text ++ c ∷ rest) ≡ Some (as_signed x, c ∷ rest)
unfolding operand_at operand_by after paren_by
signed_of sc n w text x c rest small is =
    let grouped : (type_text true w ++ 41 ∷ text) ++ c ∷ rest ≡ type_text true w ++ 41 ∷ (text ++ c ∷ rest) =
    append_assoc (type_text true w) (41 ∷ text) (c ∷ rest) in
    let t = type_again true w 41 (text ++ c ∷ rest) small refl in
    rw (grouped, t, is) refl

-- ---- the three kinds of text: of a binary or unary form, simple, and of a comparison

pub resize_same : (w : ℕ) (x : Item) → 0 < w → w < 17 → w ≡ x.width → resize (width_by w) x ≡ item x.tree w
unfolding resize
resize_same w x pos small is =
    let same : (width_by w).bytes ≡ x.width = width_bytes w pos small ∙ is in
    let yes : eqb (width_by w).bytes x.width ≡ true = grind (arith, same) in
    rw yes (ap (λ (v : ℕ). item x.tree v) (sym is))

-- one that needs no more levels than its operands have
abbrev pub Inner : Scope → Expr → ℕ → ℕ → List ℕ → Type 0
Inner sc t w d text = (n c : ℕ) (rest : List ℕ) → 3 * d ≤ n + 2 → IsEnd c
    → inner_by (operand_at sc n) (text ++ c ∷ rest) ≡ Some (item t w, c ∷ rest)

abbrev pub Alone : Scope → Expr → ℕ → ℕ → List ℕ → Type 0
Alone sc t w d text = (n c : ℕ) (rest : List ℕ) → 3 * d ≤ n → IsEnd c
    → inner_by (operand_at sc n) (text ++ c ∷ rest) ≡ Some (item t w, c ∷ rest)

abbrev pub Operand : Scope → Expr → ℕ → ℕ → List ℕ → Type 0
Operand sc t w d text = (n c : ℕ) (rest : List ℕ) → 3 * d ≤ n → IsStop c
    → operand_at sc n (text ++ c ∷ rest) ≡ Some (item t w, c ∷ rest)

abbrev pub AllHeaded : List ℕ → Type 0
AllHeaded text = (z : List ℕ) → Headed (text ++ z)

abbrev pub AllBegun : List ℕ → Type 0
AllBegun text = (z : List ℕ) → Begun (text ++ z)

-- in parentheses
in_parens : (sc : Scope) (t : Expr) (w d : ℕ) (text : List ℕ)
    → 0 < d
    → AllBegun text
    → Inner sc t w d text
    → (n c : ℕ) (rest : List ℕ)
    → 3 * d ≤ n + 1
    → operand_at sc n (enclosed text ++ c ∷ rest) ≡ Some (item t w, c ∷ rest)
in_parens sc t w d text deep head inner zero c rest le = absurd (omega arith)
in_parens sc t w d text deep head inner (suc n) c rest le =
    paren_of sc n text (item t w) c rest (head (41 ∷ c ∷ rest)).not_typed (inner n 41 (c ∷ rest) (omega arith) at_close)

-- in a signed cast
pub in_signed : (sc : Scope) (t : Expr) (w d : ℕ) (text : List ℕ)
    → w < 17
    → Operand sc t w d text
    → (n c : ℕ) (rest : List ℕ)
    → 3 * d + 1 ≤ n
    → IsStop c
    → operand_at sc n (cast true w text ++ c ∷ rest) ≡ Some (as_signed (item t w), c ∷ rest)
in_signed sc t w d text fits operand zero c rest le stop = absurd (omega arith)
in_signed sc t w d text fits operand (suc n) c rest le stop =
    signed_of sc n w text (item t w) c rest fits (operand n c rest (omega arith) stop)

pub alone_of : (sc : Scope) (t : Expr) (w d : ℕ) (text : List ℕ)
    → AllHeaded text
    → Operand sc t w d text
    → Alone sc t w d text
alone_of sc t w d text head operand n c rest le end =
    inner_of (operand_at sc n) (text ++ c ∷ rest) (item t w) c rest (head (c ∷ rest))
    (operand n c rest le (stop_of end)) end

pub simple_again : (sc : Scope) (t : Expr) (w d : ℕ) (text : List ℕ)
    → Sized w d
    → AllHeaded text
    → Operand sc t w d text
    → Again sc t w d (simple w text)
simple_again sc t w d text size head operand =
    let alone = alone_of sc t w d text head operand in
    record {
      size = size;
      width = refl;
      operand = operand;
      signed = in_signed sc t w d text size.fits operand;
      plain = alone;
      test = alone;
      operand_head = head;
      signed_head = λ z. headed_paren _;
      plain_head = λ z. (head z).begun;
      test_head = λ z. (head z).begun;
    }

pub compound_again : (sc : Scope) (t : Expr) (w d : ℕ) (text : List ℕ)
    → Sized w d
    → AllBegun text
    → Inner sc t w d text
    → Again sc t w d (compound w text)
compound_again sc t w d text size head inner =
    let operand : Operand sc t w d (enclosed text) =
    λ n c rest le stop. in_parens sc t w d text size.deep head inner n c rest (omega arith) in
    let alone : Alone sc t w d text = λ n c rest le end. inner n c rest (omega arith) end in
    record {
      size = size;
      width = refl;
      operand = operand;
      signed = in_signed sc t w d _ size.fits operand;
      plain = alone;
      test = alone;
      operand_head = λ z. headed_paren _;
      signed_head = λ z. headed_paren _;
      plain_head = head;
      test_head = head;
    }

-- a cast to its own width around parentheses
pub in_cast : (sc : Scope) (t : Expr) (w d : ℕ) (text : List ℕ)
    → Sized w d
    → AllBegun text
    → Inner sc t w d text
    → Operand sc t w d (cast false w (enclosed text))
unfolding after
in_cast sc t w d text size head inner zero c rest le stop = absurd (omega (arith, size.deep))
in_cast sc t w d text size head inner (suc n) c rest le stop =
    cast_of sc n w (enclosed text) (item t w) c rest size.fits refl
    (in_parens sc t w d text size.deep head inner n c rest (omega arith))
    ∙ ap (λ (x : Item). Some (x, c ∷ rest)) (resize_same w (item t w) size.some size.fits refl)

pub comparison_again : (sc : Scope) (t : Expr) (d : ℕ) (text : List ℕ)
    → Sized 1 d
    → AllBegun text
    → Inner sc t 1 d text
    → Again sc t 1 d (comparison text)
comparison_again sc t d text size head inner =
    let operand = in_cast sc t 1 d text size head inner in
    let alone = alone_of sc t 1 d (cast false 1 (enclosed text)) (λ z. headed_paren _) operand in
    record {
      size = size;
      width = refl;
      operand = operand;
      signed = in_signed sc t 1 d _ size.fits operand;
      plain = alone;
      test = λ n c rest le end. inner n c rest (omega arith) end;
      operand_head = λ z. headed_paren _;
      signed_head = λ z. headed_paren _;
      plain_head = λ z. (headed_paren _).begun;
      test_head = head;
    }
