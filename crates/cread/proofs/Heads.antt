-- The declarations of callees, parameters and locals are read again.
use Rattle.std.proofs.Common.{◌≡◌, ℕ, zero, suc, ◌+◌, ◌*◌, ◌/◌, ◌%◌, ◌^◌, ◌<◌, ◌≤◌, Bool, true, false, eqb, ◌&&◌, List, [], ◌∷◌, ◌++◌, length, Option, Some, None, refl, ap, ◌∙◌, subst, arith, append_assoc, length-append, inl, inr}
use Rattle.std.specs.Prelude.{codes, map}
use Rattle.std.specs.Char.{is_digit, digit_value}
use Rattle.std.specs.Fmt.{decimal, digits, digits_onto, digit_glyph}
use Rattle.std.specs.Str.Parse.{AllDigits}
use Rattle.std.proofs.lemmas.Fmt.{decimal_is_IsNumeral}
use Rattle.std.proofs.lemmas.Bool.{lt-ltb, ltb-true, cases_Bool, and_parts}
use Rattle.bits_core.specs.declared.word.Width.{Width}
use Rattle.cmeaning.specs.declared.tree.CName.{CName}
use Rattle.cmeaning.specs.declared.tree.CName.TheVariants.{Declared, Bare}
use Rattle.cmeaning.specs.declared.tree.CalleeDecl.{CalleeDecl}
use Rattle.cmeaning.specs.declared.tree.Local.{Local}
use Rattle.cmeaning.specs.declared.tree.Param.{Param}
use Rattle.cmeaning.specs.Valid.{is_long, is_storage, precedes_all, are_params, is_callee_name, result_fits, is_callee, is_apart_from, are_callees}
use Rattle.cmeaning.proofs.Names.{name_bytes}
use Rattle.ctext.specs.Names.{hex, type_text, unsigned_type, result_type, separated_or_void, further, param_name, local_name, callee_name}
use Rattle.ctext.specs.Text.{width_types, returns_mark, callee_head, address_text, callee_line, callee_lines, param_text, local_lines}
use Rattle.cread.specs.Words.{◌>>=◌, after, number_from, decimal_at, many_by}
use Rattle.cread.specs.Names.{type_at}
use Rattle.cread.specs.Functions.{result_at, callee_name_at, marked_by, no_return_mark, head_at, width_at, further_width, widths_at, tail_at, callee_at, callees_at, param_at, further_param, params_at, local_at, locals_at}
use Rattle.cread.proofs.Fronts.{hex_again, name_again}
use Rattle.cread.proofs.Naming.{IsEnd, stop_of, stop_decimal, entry_again}
use Rattle.cread.proofs.Widths.{type_again, width_again}
use Rattle.cread.proofs.Rows.{AllOf, comma_first, comma_again}

-- ---- what callees and the function begin with

-- what stands behind a type
data IsTypeEnd : ℕ → Type 0 where
  a_space : IsTypeEnd 32
  of_end : {c : ℕ} → IsEnd c → IsTypeEnd c

type_stop : {c : ℕ} → IsTypeEnd c → is_digit c 10 ≡ false
type_stop a_space = refl
type_stop (of_end end) = stop_decimal (stop_of end)

-- a width behind its type
typed : (w : Width) (c : ℕ) (rest : List ℕ)
    → IsTypeEnd c
    → type_at (unsigned_type w.bytes ++ c ∷ rest) ≡ Some (record { width = w; signed = false }, c ∷ rest)
typed w c rest stop =
    let most = w.to in
    type_again false w.bytes c rest (omega arith) (type_stop stop)
    ∙ ap (λ (v : Width). Some (record { width = v; signed = false }, c ∷ rest)) (width_again w)

result_again : (gives : Option Width) (rest : List ℕ)
    → result_at (result_type gives ++ 32 ∷ rest) ≡ Some (gives, 32 ∷ rest)
unfolding after
result_again None rest = refl
result_again (Some w) rest = let t = typed w 32 rest a_space in rw t refl

name_read : (name : CName) (address : ℕ) (rest : List ℕ)
    → is_callee_name name ≡ true
    → address < 2 ^ 128
    → callee_name_at (callee_name name address ++ 40 ∷ rest) ≡ Some (name, 40 ∷ rest)
unfolding after
name_read (Declared n) address rest good low =
    let letters = name_bytes n good in
    let one = name_again n 40 rest letters refl in
    rw one refl
name_read Bare address rest good low = let one = hex_again address 40 rest low refl in rw one refl

marked_again : (returns : Bool) (gives : Option Width) (name : CName) (address : ℕ) (rest : List ℕ)
    → is_callee_name name ≡ true
    → address < 2 ^ 128
    → marked_by returns (result_type gives ++ 32 ∷ (callee_name name address ++ 40 ∷ rest))
    ≡ Some (record { returns = returns; gives = gives; name = name }, rest)
unfolding after
marked_again returns gives name address rest good low =
    let one = result_again gives (callee_name name address ++ 40 ∷ rest) in
    let two = name_read name address rest good low in
    rw (one, two) refl

no_mark : (gives : Option Width) (rest : List ℕ) → after no_return_mark (result_type gives ++ rest) ≡ None
unfolding after no_return_mark
no_mark None rest = refl
no_mark (Some w) rest = refl

pub head_again : (returns : Bool) (gives : Option Width) (name : CName) (address : ℕ) (rest : List ℕ)
    → is_callee_name name ≡ true
    → address < 2 ^ 128
    → head_at (returns_mark returns ++ (result_type gives ++ 32 ∷ (callee_name name address ++ 40 ∷ rest)))
    ≡ Some (record { returns = returns; gives = gives; name = name }, rest)
unfolding head_at after no_return_mark
head_again true gives name address rest good low =
    let gap = no_mark gives (32 ∷ (callee_name name address ++ 40 ∷ rest)) in
    rw gap (marked_again true gives name address rest good low)
head_again false gives name address rest good low = marked_again false gives name address rest good low

-- ---- callees

width_again_at : (w : Width) (c : ℕ) (rest : List ℕ)
    → Unit {0}
    → IsEnd c
    → width_at (unsigned_type w.bytes ++ c ∷ rest) ≡ Some (w, c ∷ rest)
unfolding width_at
width_again_at w c rest ok end = let t = typed w c rest (of_end end) in rw t refl

next_width : (bytes : List ℕ) → further_width bytes ≡ (after (codes ", ") bytes >>= width_at)
unfolding further_width
next_width bytes = refl

abbrev width_text : Width → List ℕ
width_text w = unsigned_type w.bytes

any_widths : (ws : List Width) → AllOf (λ w. Unit {0}) ws
any_widths [] = tt
any_widths (w ∷ ws) = (tt, any_widths ws)

pub widths_again : (ws : List Width) (rest : List ℕ)
    → widths_at (separated_or_void (width_types ws) ++ 41 ∷ rest) ≡ Some (ws, 41 ∷ rest)
unfolding widths_at after
widths_again [] rest = refl
widths_again (w ∷ ws) rest =
    let others = further (map width_text ws) in
    let grouped : (unsigned_type w.bytes ++ others) ++ 41 ∷ rest ≡ unsigned_type w.bytes ++ (others ++ 41 ∷ rest) =
    append_assoc (unsigned_type w.bytes) others (41 ∷ rest) in
    let one = comma_first width_at width_text w ws rest (λ c z end. width_again_at w c z tt end) in
    let more = comma_again width_at further_width width_text (λ w. Unit {0}) next_width width_again_at ws rest
    (any_widths ws) in
    rw (grouped, one, more) refl

-- ---- one callee

pub callee_again : (c : CalleeDecl) (rest : List ℕ)
    → is_callee c ≡ true
    → callee_at (callee_line c ++ rest) ≡ Some (c, rest)
unfolding callee_at tail_at after
callee_again c rest ok =
    let good = and_parts (is_long c.address) (is_callee_name c.name && result_fits c.returns c.gives) ok in
    let low : c.address < 2 ^ 64 = ltb-true _ _ good.0 in
    let name = (and_parts (is_callee_name c.name) (result_fits c.returns c.gives) good.1).0 in
    let args = separated_or_void (width_types c.args) in
    let last = args ++ 41 ∷ (codes "; // 0x" ++ (hex c.address ++ 10 ∷ rest)) in
    let grouped : callee_line c ++ rest
    ≡ returns_mark c.returns ++ (result_type c.gives ++ 32 ∷ (callee_name c.name c.address ++ 40 ∷ last)) =
    simp append_assoc in
    let one = head_again c.returns c.gives c.name c.address last name (omega arith) in
    let two = widths_again c.args (codes "; // 0x" ++ (hex c.address ++ 10 ∷ rest)) in
    let three = hex_again c.address 10 rest (omega arith) refl in
    let same : c.address % 2 ^ 64 ≡ c.address = omega arith in
    rw (grouped, one, two, three, same) refl

callees_row : (cs : List CalleeDecl) (k : ℕ) (rest : List ℕ)
    → are_callees cs ≡ true
    → callee_at rest ≡ None
    → length cs ≤ k
    → ◌≡◌ {A = List CalleeDecl × List ℕ} (many_by callee_at k (callee_lines cs ++ rest)) (cs, rest)
unfolding many_by
callees_row [] zero rest ok ends le = refl
callees_row [] (suc k) rest ok ends le = rw ends refl
callees_row (c ∷ cs) zero rest ok ends le = absurd (omega arith)
callees_row (c ∷ cs) (suc k) rest ok ends le =
    let three = and_parts (is_callee c) (is_apart_from c cs && are_callees cs) ok in
    let two = and_parts (is_apart_from c cs) (are_callees cs) three.1 in
    let grouped : (callee_line c ++ callee_lines cs) ++ rest ≡ callee_line c ++ (callee_lines cs ++ rest) =
    append_assoc (callee_line c) (callee_lines cs) rest in
    let one = callee_again c (callee_lines cs ++ rest) three.0 in
    let more = callees_row cs k rest two.1 ends (omega arith) in
    rw (grouped, one, more) refl

callees_long : (cs : List CalleeDecl) (z : List ℕ) → length cs ≤ length (callee_lines cs ++ z)
callees_long [] z = omega arith
callees_long (c ∷ cs) z =
    let more = callees_long cs z in
    let args = separated_or_void (width_types c.args) in
    let tail = codes "(" ++ (args ++ address_text c.address) in
    omega (
      arith,
      more,
      length-append (callee_lines cs) z,
      length-append (callee_line c ++ callee_lines cs) z,
      length-append (callee_line c) (callee_lines cs),
      length-append (callee_head c) tail,
    )

pub callees_again : (cs : List CalleeDecl) (rest : List ℕ)
    → are_callees cs ≡ true
    → callee_at rest ≡ None
    → ◌≡◌ {A = List CalleeDecl × List ℕ} (callees_at (callee_lines cs ++ rest)) (cs, rest)
callees_again cs rest ok ends = callees_row cs (length (callee_lines cs ++ rest)) rest ok ends (callees_long cs rest)

-- ---- parameters

param_read : (p : Param) (c : ℕ) (rest : List ℕ)
    → is_storage p.storage ≡ true
    → IsEnd c
    → param_at (param_text p ++ c ∷ rest) ≡ Some (p, c ∷ rest)
unfolding param_at after
param_read p c rest fits end =
    let most = p.width.to in
    let grouped : (type_text p.signed p.width.bytes ++ (codes " " ++ param_name p)) ++ c ∷ rest
    ≡ type_text p.signed p.width.bytes ++ 32 ∷ (param_name p ++ c ∷ rest) = simp append_assoc in
    let t = type_again p.signed p.width.bytes 32 (param_name p ++ c ∷ rest) (omega arith) refl in
    let e = entry_again p c rest fits (stop_of end) in
    let w = width_again p.width in
    rw (grouped, t, e, w) refl

next_param : (bytes : List ℕ) → further_param bytes ≡ (after (codes ", ") bytes >>= param_at)
unfolding further_param
next_param bytes = refl

abbrev Stored : Param → Type 0
Stored p = is_storage p.storage ≡ true

all_stored : (ps : List Param) → are_params ps ≡ true → AllOf Stored ps
all_stored [] ok = tt
all_stored (p ∷ ps) ok =
    let three = and_parts (is_storage p.storage) (precedes_all p ps && are_params ps) ok in
    (three.0, all_stored ps (and_parts (precedes_all p ps) (are_params ps) three.1).1)

type_not_void : (signed : Bool) (w : ℕ) (rest : List ℕ) → after (codes "void") (type_text signed w ++ rest) ≡ None
unfolding after
type_not_void true w rest = refl
type_not_void false w rest = refl

no_params : (rest : List ℕ) → params_at (codes "void" ++ 41 ∷ rest) ≡ Some ([], 41 ∷ rest)
unfolding params_at after
no_params rest = refl

pub params_again : (ps : List Param) (rest : List ℕ)
    → are_params ps ≡ true
    → params_at (separated_or_void (map param_text ps) ++ 41 ∷ rest) ≡ Some (ps, 41 ∷ rest)
unfolding params_at
params_again [] rest ok = no_params rest
params_again (p ∷ ps) rest ok =
    let all = all_stored (p ∷ ps) ok in
    let others = further (map param_text ps) in
    let grouped : (param_text p ++ others) ++ 41 ∷ rest ≡ param_text p ++ (others ++ 41 ∷ rest) =
    append_assoc (param_text p) others (41 ∷ rest) in
    let begins : param_text p ++ (others ++ 41 ∷ rest)
    ≡ type_text p.signed p.width.bytes ++ (codes " " ++ (param_name p ++ (others ++ 41 ∷ rest))) =
    simp append_assoc in
    let gap : after (codes "void") (param_text p ++ (others ++ 41 ∷ rest)) ≡ None =
    ap (after (codes "void")) begins
    ∙ type_not_void p.signed p.width.bytes (codes " " ++ (param_name p ++ (others ++ 41 ∷ rest))) in
    let one = comma_first param_at param_text p ps rest (λ c z end. param_read p c z all.0 end) in
    let more = comma_again param_at further_param param_text Stored next_param param_read ps rest all.1 in
    rw (grouped, gap, one, more) refl

-- behind one type no other stands, but the name of a parameter
one_width : (signed : Bool) (w : Width) (more : List ℕ)
    → widths_at (type_text signed w.bytes ++ 32 ∷ more) ≡ Some (w ∷ [], 32 ∷ more)
unfolding widths_at width_at many_by further_width after
one_width signed w more =
    let most = w.to in
    let gap = type_not_void signed w.bytes (32 ∷ more) in
    let t = type_again signed w.bytes 32 more (omega arith) refl in
    let same = width_again w in
    rw (gap, t, same) refl

first_no_width : (p : Param) (others rest : List ℕ)
    → (widths_at ((param_text p ++ others) ++ rest) >>= λ ws. after (codes "); // 0x") ws.1) ≡ None
unfolding after
first_no_width p others rest =
    let more = param_name p ++ (others ++ rest) in
    let grouped : (param_text p ++ others) ++ rest ≡ type_text p.signed p.width.bytes ++ 32 ∷ more =
    simp append_assoc in
    let one = one_width p.signed p.width more in
    rw (grouped, one) refl

-- the function's line is no callee's
pub params_no_widths : (ps : List Param) (rest : List ℕ)
    → (widths_at (separated_or_void (map param_text ps) ++ 41 ∷ 10 ∷ rest) >>= λ ws. after (codes "); // 0x") ws.1)
    ≡ None
unfolding widths_at width_at after
params_no_widths [] rest = refl
params_no_widths (p ∷ ps) rest = first_no_width p (further (map param_text ps)) (41 ∷ 10 ∷ rest)

-- ---- locals

glyph_one : (m : ℕ) → m < 10 → digits 10 false m ≡ digit_glyph false m ∷ []
unfolding digits
glyph_one m low =
    let none : eqb (m / 10) 0 ≡ true = grind (arith, low) in
    let same : m % 10 ≡ m = omega arith in
    rw (none, same) refl

glyph_digit : (m : ℕ) → m < 10 → digit_value (digit_glyph false m) < 10
glyph_digit m low = (subst (AllDigits 10) (glyph_one m low) (decimal_is_IsNumeral m (omega arith)).0.1).0

onto_digits : (k n : ℕ) (acc : List ℕ) → AllDigits 10 acc → AllDigits 10 (digits_onto k 10 false n acc)
onto_digits zero n acc all = all
onto_digits (suc k) n acc all =
    let glyph = glyph_digit (n % 10) (omega arith) in
    elim (cases_Bool (eqb (n / 10) 0)) [
      | inl last ↦ rw last (glyph, all)
      | inr more ↦ rw more (onto_digits k (n / 10) (digit_glyph false (n % 10) ∷ acc) (glyph, all))
    ]

all_digits : (n : ℕ) → AllDigits 10 (decimal n)
unfolding digits
all_digits n = onto_digits 64 n [] tt

past_digits : (ds : List ℕ) (n c : ℕ) (rest : List ℕ)
    → AllDigits 10 ds
    → is_digit c 10 ≡ false
    → (number_from 10 n (ds ++ c ∷ rest)).1 ≡ c ∷ rest
unfolding number_from
past_digits [] n c rest all stop = rw stop refl
past_digits (d ∷ ds) n c rest all stop =
    let here : is_digit d 10 ≡ true = lt-ltb _ _ all.0 in
    rw here (past_digits ds ((n * 10 + digit_value d) % 2 ^ 128) c rest all.1 stop)

-- any decimal number is passed, whatever it is
passed : (n c : ℕ) (rest : List ℕ) → is_digit c 10 ≡ false → (decimal_at (decimal n ++ c ∷ rest)).1 ≡ c ∷ rest
unfolding decimal_at
passed n c rest stop = past_digits (decimal n) 0 c rest (all_digits n) stop

-- the line of a local
local_read : (n : ℕ) (l : Local) (rest : List ℕ)
    → local_at (codes "  " ++ (type_text l.signed l.width.bytes
    ++ (codes " " ++ (local_name (n + 1) ++ (codes ";\n" ++ rest))))) ≡ Some (l, rest)
unfolding local_at after
local_read n l rest =
    let most = l.width.to in
    let t = type_again l.signed l.width.bytes 32 (local_name (n + 1) ++ (codes ";\n" ++ rest)) (omega arith) refl in
    let p = passed (n + 1) 59 (10 ∷ rest) refl in
    let w = width_again l.width in
    rw (t, p, w) refl

locals_row : (ls : List Local) (n k : ℕ) (rest : List ℕ)
    → local_at rest ≡ None
    → length ls ≤ k
    → ◌≡◌ {A = List Local × List ℕ} (many_by local_at k (local_lines n ls ++ rest)) (ls, rest)
unfolding many_by
locals_row [] n zero rest ends le = refl
locals_row [] n (suc k) rest ends le = rw ends refl
locals_row (l ∷ ls) n zero rest ends le = absurd (omega arith)
locals_row (l ∷ ls) n (suc k) rest ends le =
    let others = local_lines (n + 1) ls in
    let grouped : local_lines n (l ∷ ls) ++ rest
    ≡ codes "  " ++ (type_text l.signed l.width.bytes
    ++ (codes " " ++ (local_name (n + 1) ++ (codes ";\n" ++ (others ++ rest))))) = simp append_assoc in
    let one = local_read n l (others ++ rest) in
    let more = locals_row ls (n + 1) k rest ends (omega arith) in
    rw (grouped, one, more) refl

locals_long : (ls : List Local) (n : ℕ) (z : List ℕ) → length ls ≤ length (local_lines n ls ++ z)
locals_long [] n z = omega arith
locals_long (l ∷ ls) n z =
    let more = locals_long ls (n + 1) z in
    let others = local_lines (n + 1) ls in
    let type = type_text l.signed l.width.bytes in
    let name = local_name (n + 1) ++ (codes ";\n" ++ others) in
    omega (
      arith,
      more,
      length-append others z,
      length-append (local_lines n (l ∷ ls)) z,
      length-append type
          (codes " " ++ name),
      length-append (local_name (n + 1)) (codes ";\n" ++ others),
    )

pub locals_again : (ls : List Local) (rest : List ℕ)
    → local_at rest ≡ None
    → ◌≡◌ {A = List Local × List ℕ} (locals_at (local_lines 0 ls ++ rest)) (ls, rest)
locals_again ls rest ends = locals_row ls 0 (length (local_lines 0 ls ++ rest)) rest ends (locals_long ls 0 rest)
