-- The parts of statements are read again: expressions, arguments, memory accesses and calls.
use Rattle.std.proofs.Common.{◌≡◌, ℕ, zero, suc, ◌<◌, ◌≤◌, Bool, true, false, ◌&&◌, List, [], ◌∷◌, ◌++◌, length, Option, Some, None, refl, sym, ◌∙◌, subst, arith, append_assoc, length-append}
use Rattle.std.specs.Prelude.{codes}
use Rattle.std.proofs.lemmas.Bool.{and_parts}
use Rattle.bits_core.specs.declared.word.Width.{Width}
use Rattle.cmeaning.specs.declared.shape.Shape.{Shape}
use Rattle.cmeaning.specs.Shape.{shape_of, is_right, has_width, is_condition}
use Rattle.cmeaning.specs.Valid.{are_right, have_widths, is_variable, is_target}
use Rattle.cmeaning.specs.declared.tree.Expr.{Expr}
use Rattle.cmeaning.specs.declared.tree.Stmt.{Stmt}
use Rattle.ctext.specs.Names.{Scope, variable, separated, further}
use Rattle.ctext.specs.Expressions.{form}
use Rattle.ctext.specs.Statements.{loop_head, plain_texts, target_text}
use Rattle.cread.specs.declared.item.Right.{Right}
use Rattle.cread.specs.Words.{◌>>=◌, after, run_of, past_spaces, many_by}
use Rattle.cread.specs.Names.{type_at}
use Rattle.cread.specs.Expressions.{item, as_signed, inner_by, operand_at, expr_at}
use Rattle.cread.specs.Statements.{line_at, plain_line_at, right_at, further_item, further_at, args_at, right_by, effect_at, target_at, not_own, statement_by, statement_at, value_at}
use Rattle.cread.proofs.Naming.{space, NameHead, of_local_name, of_model, of_entry, Named, IsEnd, at_close, at_comma, at_semi, stop_of}
use Rattle.cread.proofs.Again.{AllBegun, inner_of}
use Rattle.cread.proofs.Law.{Context, number_is, named_by, reads, name_headed}

-- ---- expressions

read_expr : (sc : Scope) (t : Expr) (w : ℕ) (b : Bool) (text : List ℕ) (c : ℕ) (rest : List ℕ)
    → inner_by (operand_at sc 200) (text ++ c ∷ rest) ≡ Some (record { tree = t; width = w; signed = b }, c ∷ rest)
    → expr_at sc (text ++ c ∷ rest) ≡ Some (t, c ∷ rest)
unfolding expr_at
read_expr sc t w b text c rest h = rw h refl

-- what is written of an expression that is right
pub record Written (sc : Scope) (t : Expr) : Type 0 where
  pub width : (form sc t).width < 17
  pub plain : (c : ℕ) (rest : List ℕ) → IsEnd c → expr_at sc ((form sc t).plain ++ c ∷ rest) ≡ Some (t, c ∷ rest)
  pub test : (c : ℕ) (rest : List ℕ) → IsEnd c → expr_at sc ((form sc t).test ++ c ∷ rest) ≡ Some (t, c ∷ rest)
  pub signed : (c : ℕ) (rest : List ℕ) → IsEnd c → expr_at sc ((form sc t).signed ++ c ∷ rest) ≡ Some (t, c ∷ rest)
  pub plain_head : AllBegun (form sc t).plain
  pub test_head : AllBegun (form sc t).test
  pub signed_head : AllBegun (form sc t).signed

-- A test that nothing passes is passed by a shape.
passes : (test : Option Shape → Bool) (o : Option Shape)
    → test None ≡ false
    → test o ≡ true
    → (s : Shape) × (o ≡ Some s)
passes test None none h = let e : true ≡ false = sym h ∙ none in absurd (cc)
passes test (Some x) none h = (x, refl)

-- an expression at the end of a line
pub value_again : (sc : Scope) (t : Expr) (text rest : List ℕ)
    → ((c : ℕ) (rest : List ℕ) → IsEnd c → expr_at sc (text ++ c ∷ rest) ≡ Some (t, c ∷ rest))
    → value_at sc (text ++ (codes ";\n" ++ rest)) ≡ Some (t, rest)
unfolding after
value_again sc t text rest is = let one = is 59 (10 ∷ rest) at_semi in rw one refl

abbrev pub AllWritten : Scope → List Expr → Type 0
AllWritten sc [] = Unit {0}
AllWritten sc (t ∷ ts) = Written sc t × AllWritten sc ts

module _ (sc : Scope) (ws : ℕ → ℕ) (ok : Context sc ws) where
  pub written : (t : Expr) (s : Shape) → shape_of ws t ≡ Some s → Written sc t
  written t s is =
      let a = reads sc ws ok t s is in
      let z = a.size in
      record {
        width = rw a.width z.fits;
        plain = λ c rest end. read_expr sc t s.width false (form sc t).plain c rest
            (a.plain 200 c rest (omega arith) end);
        test = λ c rest end. read_expr sc t s.width false (form sc t).test c rest (a.test 200 c rest (omega arith) end);
        signed = λ c rest end. read_expr sc t s.width true (form sc t).signed c rest
            (inner_of (operand_at sc 200) ((form sc t).signed ++ c ∷ rest) (as_signed (item t s.width)) c rest
            (a.signed_head (c ∷ rest)) (a.signed 200 c rest (omega arith) (stop_of end)) end);
        plain_head = a.plain_head;
        test_head = a.test_head;
        signed_head = λ z. (a.signed_head z).begun;
      }

  pub written_right : (t : Expr) → is_right (shape_of ws t) ≡ true → Written sc t
  written_right t h = let s = passes is_right (shape_of ws t) refl h in written t s.0 s.1

  pub written_width : (w : ℕ) (t : Expr) → has_width w (shape_of ws t) ≡ true → Written sc t
  written_width w t h = let s = passes (has_width w) (shape_of ws t) refl h in written t s.0 s.1

  pub written_test : (t : Expr) → is_condition (shape_of ws t) ≡ true → Written sc t
  written_test t h = let s = passes is_condition (shape_of ws t) refl h in written t s.0 s.1

  -- ---- arguments

  pub all_right : (ts : List Expr) → are_right ws ts ≡ true → AllWritten sc ts
  all_right [] h = tt
  all_right (t ∷ ts) h =
      let both = and_parts (is_right (shape_of ws t)) (are_right ws ts) h in
      (written_right t both.0, all_right ts both.1)

  pub all_wide : (ts : List Expr) (widths : List Width) → have_widths ws ts widths ≡ true → AllWritten sc ts
  all_wide [] widths h = tt
  all_wide (t ∷ ts) [] h = absurd cc
  all_wide (t ∷ ts) (w ∷ widths) h =
      let both = and_parts (has_width w.bytes (shape_of ws t)) (have_widths ws ts widths) h in
      (written_width w.bytes t both.0, all_wide ts widths both.1)

abbrev texts : Scope → List Expr → List ℕ
texts sc ts = further (plain_texts sc ts)

-- one argument before the others
pub before_others : (sc : Scope) (t : Expr) (ts : List Expr) (rest : List ℕ)
    → Written sc t
    → expr_at sc ((form sc t).plain ++ (texts sc ts ++ 41 ∷ rest)) ≡ Some (t, texts sc ts ++ 41 ∷ rest)
before_others sc t [] rest w = w.plain 41 rest at_close
before_others sc t (u ∷ ts) rest w = w.plain 44 (32 ∷ (((form sc u).plain ++ texts sc ts) ++ 41 ∷ rest)) at_comma

others_again : (sc : Scope) (ts : List Expr) (k : ℕ) (rest : List ℕ)
    → AllWritten sc ts
    → length ts ≤ k
    → ◌≡◌ {A = List Expr × List ℕ} (many_by (further_item sc) k (texts sc ts ++ 41 ∷ rest)) (ts, 41 ∷ rest)
unfolding many_by further_item after
others_again sc [] zero rest all le = refl
others_again sc [] (suc k) rest all le = refl
others_again sc (t ∷ ts) zero rest all le = absurd (omega arith)
others_again sc (t ∷ ts) (suc k) rest all le =
    let grouped : ((form sc t).plain ++ texts sc ts) ++ 41 ∷ rest ≡ (form sc t).plain ++ (texts sc ts ++ 41 ∷ rest) =
    append_assoc (form sc t).plain (texts sc ts) (41 ∷ rest) in
    let one = before_others sc t ts rest all.0 in
    let more = others_again sc ts k rest all.1 (omega arith) in
    rw (grouped, one, more) refl

others_long : (sc : Scope) (ts : List Expr) (z : List ℕ) → length ts ≤ length (texts sc ts ++ z)
others_long sc [] z = omega arith
others_long sc (t ∷ ts) z =
    let more = others_long sc ts z in
    omega (
      arith,
      more,
      length-append (texts sc ts) z,
      length-append (44 ∷ 32 ∷ ((form sc t).plain ++ texts sc ts)) z,
      length-append (form sc t).plain (texts sc ts),
    )

pub further_again : (sc : Scope) (ts : List Expr) (rest : List ℕ)
    → AllWritten sc ts
    → ◌≡◌ {A = List Expr × List ℕ} (further_at sc (texts sc ts ++ 41 ∷ rest)) (ts, 41 ∷ rest)
further_again sc ts rest all = others_again sc ts (length (texts sc ts ++ 41 ∷ rest)) rest all
    (others_long sc ts (41 ∷ rest))

pub args_again : (sc : Scope) (ts : List Expr) (rest : List ℕ)
    → AllWritten sc ts
    → args_at sc (separated (plain_texts sc ts) ++ 41 ∷ rest) ≡ Some (ts, 41 ∷ rest)
unfolding args_at after
args_again sc [] rest all = refl
args_again sc (t ∷ ts) rest all =
    let grouped : ((form sc t).plain ++ texts sc ts) ++ 41 ∷ rest ≡ (form sc t).plain ++ (texts sc ts ++ 41 ∷ rest) =
    append_assoc (form sc t).plain (texts sc ts) (41 ∷ rest) in
    let head = (all.0.plain_head (texts sc ts ++ 41 ∷ rest)).not_close in
    let one = before_others sc t ts rest all.0 in
    let more = further_again sc ts rest all.1 in
    rw (grouped, head, one, more) refl

-- ---- what a line begins with

-- like no spaces, no case and no local
pub record Starts (bs : List ℕ) : Type 0 where
  pub no_space : past_spaces bs ≡ bs
  pub not_case : after (codes "case 0x") bs ≡ None
  pub not_local : (type_at bs >>= λ t. after (codes " v") t.1) ≡ None

-- and like no word of a statement
pub record Plainly (bs : List ℕ) : Type 0 where
  pub starts : Starts bs
  pub not_line : line_at bs ≡ None
  pub not_break : after (codes "break;\n") bs ≡ None

pub name_plainly : (bs : List ℕ) → NameHead bs → Plainly bs
unfolding line_at plain_line_at loop_head after past_spaces run_of type_at
name_plainly _ (of_local_name bs) =
    record {
      starts = record { no_space = refl; not_case = refl; not_local = refl };
      not_line = refl;
      not_break = refl;
    }
name_plainly _ (of_model bs) = record {
  starts = record { no_space = refl; not_case = refl; not_local = refl };
  not_line = refl;
  not_break = refl;
}
name_plainly _ (of_entry bs) = record {
  starts = record { no_space = refl; not_case = refl; not_local = refl };
  not_line = refl;
  not_break = refl;
}

pub own_of : (arm : Bool) (bs : List ℕ) → after (codes "break;\n") bs ≡ None → not_own arm bs ≡ true
own_of true bs h = rw h refl
own_of false bs h = refl

-- a statement's text behind its spaces, where it stands in a loop or not
pub record LineAt (sc : Scope) (n : ℕ) (loop : Bool) (t : Stmt) (text : List ℕ) : Type 0 where
  pub read : (rest : List ℕ) → statement_at sc n (text ++ rest) ≡ Some (t, rest)
  pub starts : (z : List ℕ) → Starts (text ++ z)
  pub not_own : (arm : Bool) → (arm && loop) ≡ false → (z : List ℕ) → not_own arm (text ++ z) ≡ true
  pub long : 0 < length text

-- ---- behind a target or alone

pub record RightText (sc : Scope) (v : Option ℕ) (t : Stmt) (text : List ℕ) : Type 0 where
  pub word : Right
  pub behind : List ℕ → List ℕ
  pub found : (rest : List ℕ) → right_at (text ++ rest) ≡ Some (word, behind rest)
  pub read : (rest : List ℕ) → right_by sc v word (behind rest) ≡ Some (t, rest)
  pub plainly : (z : List ℕ) → Plainly (text ++ z)
  pub long : 0 < length text

pub alone_line : (sc : Scope) (n : ℕ) (loop : Bool) (t : Stmt) (text : List ℕ)
    → RightText sc None t text
    → LineAt sc (suc n) loop t text
unfolding statement_at statement_by effect_at
alone_line sc n loop t text r = record {
  read = λ rest. let one = (r.plainly rest).not_line in let two = r.found rest in let three = r.read rest in
      rw (one, two, three) refl;
  starts = λ z. (r.plainly z).starts;
  not_own = λ arm both z. own_of arm (text ++ z) (r.plainly z).not_break;
  long = r.long;
}

-- what stands behind a target
pub target_read : (sc : Scope) (n v : ℕ) (text rest : List ℕ) (read : Option (Stmt × List ℕ))
    → Named sc v (variable sc v).name
    → target_at sc ((variable sc v).name ++ (codes " = " ++ (text ++ rest))) ≡ read
    → statement_at sc (suc n) (((variable sc v).name ++ (codes " = " ++ text)) ++ rest) ≡ read
unfolding statement_at statement_by effect_at
target_read sc n v text rest read named is =
    let name = (variable sc v).name in
    let grouped : (name ++ (codes " = " ++ text)) ++ rest ≡ name ++ (codes " = " ++ (text ++ rest)) =
    simp append_assoc in
    let head = named.begins (codes " = " ++ (text ++ rest)) in
    let one = (name_plainly _ head).not_line in
    let two = (name_headed _ head).begun.not_right in
    rw (grouped, one, two) is

pub target_line : (sc : Scope) (n v : ℕ) (loop : Bool) (t : Stmt) (text : List ℕ)
    → Named sc v (variable sc v).name
    → ((rest : List ℕ) → target_at sc ((variable sc v).name ++ (codes " = " ++ (text ++ rest))) ≡ Some (t, rest))
    → LineAt sc (suc n) loop t ((variable sc v).name ++ (codes " = " ++ text))
target_line sc n v loop t text named is =
    let name = (variable sc v).name in
    let group = λ (z : List ℕ). append_assoc name (codes " = " ++ text) z in
    let head = λ (z : List ℕ). name_plainly _ (named.begins ((codes " = " ++ text) ++ z)) in
    record {
      read = λ rest. target_read sc n v text rest (Some (t, rest)) named (is rest);
      starts = λ z. let g = group z in rw g (head z).starts;
      not_own = λ arm both z. let g = group z in rw g (own_of arm _ (head z).not_break);
      long = omega (arith, length-append name (codes " = " ++ text));
    }

pub behind_target : (sc : Scope) (v : ℕ) (t : Stmt) (text rest : List ℕ)
    → Named sc v (variable sc v).name
    → RightText sc (Some v) t text
    → target_at sc ((variable sc v).name ++ (codes " = " ++ (text ++ rest))) ≡ Some (t, rest)
unfolding target_at after
behind_target sc v t text rest named r =
    let one = named.again 32 (61 ∷ 32 ∷ (text ++ rest)) space in
    let two = r.found rest in
    let three = r.read rest in
    rw (one, two, three) refl

-- a target that the variables have
abbrev pub IsNamed : Scope → Option ℕ → Type 0
IsNamed sc None = Unit {0}
IsNamed sc (Some v) = Named sc v (variable sc v).name

pub right_line : (sc : Scope) (n : ℕ) (loop : Bool) (v : Option ℕ) (t : Stmt) (text : List ℕ)
    → IsNamed sc v
    → RightText sc v t text
    → LineAt sc (suc n) loop t (target_text sc v ++ text)
right_line sc n loop None t text named r = alone_line sc n loop t text r
right_line sc n loop (Some v) t text named r =
    let name = (variable sc v).name in
    let grouped : (name ++ codes " = ") ++ text ≡ name ++ (codes " = " ++ text) =
    append_assoc name (codes " = ") text in
    subst (λ (x : List ℕ). LineAt sc (suc n) loop t x) (sym grouped)
    (target_line sc n v loop t text named (λ rest. behind_target sc v t text rest named r))

pub target_named : (sc : Scope) (ws : ℕ → ℕ) (v : Option ℕ) → Context sc ws → is_target ws v ≡ true → IsNamed sc v
target_named sc ws None ok h = tt
target_named sc ws (Some v) ok h = named_by sc ws v ok (number_is ws sc v h)

pub variable_is_named : (sc : Scope) (ws : ℕ → ℕ) (v : ℕ)
    → Context sc ws
    → is_variable ws v ≡ true
    → Named sc v (variable sc v).name
variable_is_named sc ws v ok h = named_by sc ws v ok (number_is ws sc v h)
