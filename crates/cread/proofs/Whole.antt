-- A valid tree is read again from its text, so each text has one tree.
use Rattle.std.proofs.Common.{◌≡◌, ℕ, ◌+◌, ◌-◌, ◌<◌, Bool, true, false, List, [], ◌∷◌, ◌++◌, length, Option, Some, None, Err, refl, sym, ap, ◌∙◌, arith, append_assoc, lit<}
use Rattle.std.specs.Prelude.{codes, map, IsTrue, slice_get}
use Rattle.bits_core.specs.declared.word.Width.{Width}
use Rattle.cmeaning.specs.declared.tree.CFunction.{CFunction}
use Rattle.cmeaning.specs.declared.tree.CName.TheVariants.{Declared}
use Rattle.cmeaning.specs.declared.tree.Local.{Local}
use Rattle.cmeaning.specs.declared.tree.Param.{Param}
use Rattle.cmeaning.specs.declared.tree.Stmt.{Stmt}
use Rattle.cmeaning.specs.Do.{widths_in, variable_width}
use Rattle.cmeaning.specs.Mentions.{in_body}
use Rattle.cmeaning.specs.Valid.{is_name, are_params, are_callees, is_body, first_next, IsValid}
use Rattle.ctext.specs.Names.{scope_of, variable, of_param_or_local, of_local, result_type, separated_or_void}
use Rattle.ctext.specs.Statements.{lines, all_lines, body_text}
use Rattle.ctext.specs.Text.{callee_lines, param_text, local_lines, text_of}
use Rattle.cread.specs.declared.item.CFault.{CFault}
use Rattle.cread.specs.declared.item.CFault.TheVariants as fault
use Rattle.cread.specs.Answer.{IsAnswered}
use Rattle.cread.specs.Words.{◌>>=◌, Fails, after, ended, decimal_at, hex_at}
use Rattle.cread.specs.Names.{type_at}
use Rattle.cread.specs.Functions.{addressed, callee_at, tail_at, widths_at, head_at, local_by, local_at, title_at, variables_at, frame_at, function_at}
use Rattle.cread.proofs.Bodies.{Setting, AllOk, first_ok, brace_ends, body_again}
use Rattle.cread.proofs.Each.{lines_ok}
use Rattle.cread.proofs.Heads.{head_again, params_again, params_no_widths, callees_again, locals_again}
use Rattle.cread.proofs.Labels.{low_body, label_bound}

-- ---- what validity says

both_widths : (f : CFunction) (v : ℕ) (p : Option Param) (l : Option Local)
    → slice_get f.locals (v - length f.params) ≡ l
    → variable_width p l ≡ (of_param_or_local (scope_of f) v p).width
both_widths f v (Some p) l at = refl
both_widths f v None None at = ap (λ (o : Option Local). (of_local (v - length f.params + 1) o).width) (sym at)
both_widths f v None (Some x) at = ap (λ (o : Option Local). (of_local (v - length f.params + 1) o).width) (sym at)

widths_same : (f : CFunction) (v : ℕ) → widths_in f v ≡ (variable (scope_of f) v).width
unfolding variable
widths_same f v = both_widths f v (slice_get f.params v) (slice_get f.locals (v - length f.params)) refl

local_fits : (n : ℕ) (l : Option Local) → (of_local n l).width < 17
local_fits n None = lit< tt
local_fits n (Some l) = let most = l.width.to in omega arith

param_fits : (f : CFunction) (v : ℕ) (p : Option Param) → (of_param_or_local (scope_of f) v p).width < 17
param_fits f v (Some p) = let most = p.width.to in omega arith
param_fits f v None = local_fits (v - length f.params + 1) (slice_get f.locals (v - length f.params))

variable_fits : (f : CFunction) (v : ℕ) → (variable (scope_of f) v).width < 17
unfolding variable
variable_fits f v = param_fits f v (slice_get f.params v)

is_true : (b : Bool) → IsTrue b → b ≡ true
is_true true h = refl
is_true false h = absurd (let e : false ≡ true = h in cc)

setting : (f : CFunction) (valid : IsValid f) → Setting f valid.next.label
setting f valid =
    let low = low_body f valid.next.label f.body false false 256
    (is_true (is_body f valid.next.label f.body) valid.body) in
    record {
      context = record {
        params = is_true (are_params f.params) valid.params;
        widths = widths_same f;
        fits = variable_fits f;
      };
      callees = is_true (are_callees f.callees) valid.callees;
      few = label_bound f.callees (in_body f.body) (first_next f) valid.next low (omega arith) valid.numbers;
    }

-- ---- the parts of the text

-- the function's line
abbrev opening : CFunction → List ℕ → List ℕ
opening f rest = result_type f.gives
    ++ 32 ∷ 102 ∷ 95 ∷ (f.name ++ 40 ∷ (separated_or_void (map param_text f.params) ++ 41 ∷ 10 ∷ rest))

opened : (f : CFunction) (more : List ℕ)
    → is_name f.name ≡ true
    → head_at (result_type f.gives ++ 32 ∷ 102 ∷ 95 ∷ (f.name ++ 40 ∷ more))
    ≡ Some (record { returns = true; gives = f.gives; name = Declared f.name }, more)
opened f more good = head_again true f.gives (Declared f.name) 0 more good (omega arith)

no_widths : (o : Option (List Width × List ℕ))
    → (o >>= λ ws. after (codes "); // 0x") ws.1) ≡ None
    → (o >>= ended (codes "); // 0x") >>= λ ws. addressed ws.0 (hex_at ws.1)) ≡ None
no_widths None gap = refl
no_widths (Some ws) gap = rw gap refl

not_callee : (f : CFunction) (rest : List ℕ) → is_name f.name ≡ true → callee_at (opening f rest) ≡ None
unfolding callee_at tail_at
not_callee f rest good =
    let params = separated_or_void (map param_text f.params) ++ 41 ∷ 10 ∷ rest in
    let one = opened f params good in
    let two = no_widths (widths_at params) (params_no_widths f.params rest) in
    rw (one, two) refl

-- the first statement's line, or the last brace, is no local's
brace_no_local : (rest : List ℕ) → local_at (125 ∷ rest) ≡ None
unfolding local_at after
brace_no_local rest = refl

by_type : (o : Option (Local × List ℕ))
    → (o >>= λ t. after (codes " v") t.1) ≡ None
    → (o >>= λ t. after (codes " v") t.1 >>= λ r. local_by t.0 (decimal_at r)) ≡ None
by_type None gap = refl
by_type (Some t) gap = rw gap refl

typed_no_local : (text : List ℕ)
    → (type_at text >>= λ t. after (codes " v") t.1) ≡ None
    → local_at (codes "  " ++ text) ≡ None
unfolding local_at after
typed_no_local text gap = by_type (type_at text) gap

not_local : (f : CFunction) (labels : ℕ) (body : List Stmt) (rest : List ℕ)
    → AllOk f labels body
    → is_body f labels body ≡ true
    → local_at (all_lines (map (lines (scope_of f)) body) (codes "  ") ++ 125 ∷ rest) ≡ None
not_local f labels [] rest all h = brace_no_local rest
not_local f labels (x ∷ xs) rest all h =
    let sc = scope_of f in
    let first = first_ok f labels x xs false false 256 (codes "  ") all.0 (refl, (refl, tt)) h in
    let text = (lines sc x).text (codes "  ") in
    let others = all_lines (map (lines sc) xs) (codes "  ") in
    let grouped : (text ++ others) ++ 125 ∷ rest ≡ text ++ (others ++ 125 ∷ rest) =
    append_assoc text others (125 ∷ rest) in
    rw grouped (typed_no_local (text ++ (others ++ 125 ∷ rest)) (first.line.starts (others ++ 125 ∷ rest)).not_local)

frame_again : (f : CFunction) (rest : List ℕ)
    → IsValid f
    → local_at rest ≡ None
    → frame_at (callee_lines f.callees ++ opening f (123 ∷ 10 ∷ (local_lines 0 f.locals ++ rest)))
    ≡ Some (
      record {
        callees = f.callees;
        name = f.name;
        gives = f.gives;
        params = f.params;
        locals = f.locals;
        body = [];
      },
      rest,
    )
unfolding frame_at title_at variables_at after
frame_again f rest valid ends =
    let inside = local_lines 0 f.locals ++ rest in
    let good = is_true (is_name f.name) valid.name in
    let callees = callees_again f.callees (opening f (123 ∷ 10 ∷ inside))
    (is_true (are_callees f.callees) valid.callees) (not_callee f (123 ∷ 10 ∷ inside) good) in
    let head = opened f (separated_or_void (map param_text f.params) ++ 41 ∷ 10 ∷ 123 ∷ 10 ∷ inside) good in
    let params = params_again f.params (10 ∷ 123 ∷ 10 ∷ inside) (is_true (are_params f.params) valid.params) in
    let locals = locals_again f.locals rest ends in
    rw (callees, head, params, locals) refl

text_parts : (f : CFunction)
    → text_of f ≡ callee_lines f.callees
    ++ opening f (123 ∷ 10 ∷ (local_lines 0 f.locals
    ++ (all_lines (map (lines (scope_of f)) f.body) (codes "  ") ++ 125 ∷ 10 ∷ [])))
unfolding text_of body_text
text_parts f = simp append_assoc

-- the reader gives the tree of the text
pub taken : (f : CFunction) → IsValid f → function_at (text_of f) ≡ Some f
unfolding function_at
taken f valid =
    let k = setting f valid in
    let labels = valid.next.label in
    let all = lines_ok f labels k f.body in
    let holds = is_true (is_body f labels f.body) valid.body in
    let body = all_lines (map (lines (scope_of f)) f.body) (codes "  ") ++ 125 ∷ 10 ∷ [] in
    let parts = text_parts f in
    let frame = frame_again f body valid (not_local f labels f.body (10 ∷ []) all holds) in
    let inside = body_again f labels f.body all false false false 256 (codes "  ") (125 ∷ 10 ∷ []) refl
    (refl, (refl, tt)) holds (brace_ends (scope_of f) 256 false [] (10 ∷ []) tt) in
    rw (parts, frame, inside) refl

inside_some : (x y : CFunction) → Some x ≡ Some y → x ≡ y
inside_some x y h = cc

-- text determines the tree
pub one_tree : (f g : CFunction) → IsValid f → IsValid g → text_of f ≡ text_of g → f ≡ g
one_tree f g vf vg same = inside_some f g (sym (taken f vf) ∙ ap function_at same ∙ taken g vg)

-- what was read is the tree of the text
pub read_is : (f g : CFunction) (bytes : List ℕ) → IsValid f → bytes ≡ text_of f → function_at bytes ≡ Some g → g ≡ f
read_is f g bytes valid is read = inside_some g f (sym read ∙ ap function_at is ∙ taken f valid)

pub not_failed : (e : CFault) (f : CFunction) (bytes : List ℕ)
    → IsValid f
    → bytes ≡ text_of f
    → Fails e (function_at bytes)
    → IsAnswered f (Err e)
not_failed fault.Memory f bytes valid is h = tt
not_failed fault.NotC f bytes valid is h =
    absurd (let never : None ≡ Some f = sym h ∙ ap function_at is ∙ taken f valid in cc)
