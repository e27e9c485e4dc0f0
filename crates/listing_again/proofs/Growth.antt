-- What has been said has a canonical text, which grows by one line with each line.
use Rattle.std.proofs.Common.{◌≡◌, ◌∙◌, ◌<◌, ℕ, Bool, true, false, List, [], ◌∷◌, ◌++◌, length, map, ap, sym, refl, arith, append_assoc, append-nil}
use Rattle.std.specs.Prelude.{codes, Option, Some, None}
use Rattle.std.specs.Option.{is_some, option_to_list}
use Rattle.listing_lines.specs.Text.{Line}
use Rattle.listing_print.specs.Printed.{at_line, bytes_line, code_text, declared, ended, function_line, header_text, op_line, proto_line, space_line, stack_lines, text_of, version_line}
use Rattle.pcode_model.specs.declared.listing.Fixed.{Fixed}
use Rattle.pcode_model.specs.declared.listing.Function.{Function}
use Rattle.pcode_model.specs.declared.listing.Instruction.{Instruction}
use Rattle.pcode_model.specs.declared.listing.Op.{Op}
use Rattle.pcode_model.specs.declared.listing.Proto.{Proto}
use Rattle.pcode_model.specs.declared.listing.Space.{Space}
use Rattle.pcode_model.specs.declared.listing.Varnode.{Varnode}
use Rattle.pcodetext.specs.declared.partial_listing.PartialListing.{PartialListing}
use Rattle.pcodetext.specs.Meaning.{listing_of}
use Rattle.listing_again.proofs.Cuts.{ended_append}
use Rattle.listing_again.proofs.Lines.{version_of}

abbrev pub version_lines : Option ℕ → List Line
version_lines None = []
version_lines (Some version) = version_line version ∷ []

abbrev pub func_lines : List Space → List Proto → Option Function → List Line
func_lines spaces protos None = []
func_lines spaces protos (Some f) = function_line (codes "func") spaces protos f ∷ []

abbrev pub code_lines : List Space → List Instruction → List Line
code_lines spaces [] = []
code_lines spaces (i ∷ code) = at_line i ∷ map (op_line spaces) i.ops ++ code_lines spaces code

abbrev pub end_lines : Bool → List Line
end_lines true = codes "end" ∷ []
end_lines false = []

-- the lines up to the stack pointer's, and those up to the function's
abbrev pub early_lines : Option ℕ → List Space → Option Varnode → List Line
early_lines version spaces stack =
    (version_lines version ++ map (space_line (version_of version)) (declared spaces)) ++ stack_lines spaces stack

abbrev pub late_lines : List Line
    → List Space
    → List Proto
    → Option Function
    → List Function
    → List Fixed
    → List Instruction
    → Bool
    → List Line
late_lines front spaces protos func callees fixed code over =
    ((((front ++ map (proto_line spaces) protos) ++ func_lines spaces protos func)
    ++ map (function_line (codes "callee") spaces protos) callees)
    ++ map (bytes_line spaces) fixed)
    ++ (code_lines spaces code ++ end_lines over)

-- the canonical lines of what has been said
abbrev pub said_lines : PartialListing → List Line
said_lines s =
    late_lines (early_lines s.version s.spaces s.stack) s.spaces s.protos s.func s.callees s.fixed
    (s.done ++ option_to_list s.last) s.ended

-- ---- nothing stands after

pub no_ops : (done : List Instruction) (last : Option Instruction)
    → done ≡ []
    → is_some last ≡ false
    → done ++ option_to_list last ≡ []
no_ops done None d l = ap (λ (xs : List Instruction). xs ++ []) d
no_ops done (Some i) d l = cc

-- a list after which lists stand that are empty
nil_end : (xs ys : List Line) → ys ≡ [] → xs ++ ys ≡ xs
nil_end xs ys e = ap (λ (r : List Line). xs ++ r) e ∙ append-nil xs

pub up_to_protos :
    (front : List Line) (spaces : List Space) (protos : List Proto) (func : Option Function) (callees : List Function)
    (fixed : List Fixed) (code : List Instruction) (over : Bool)
    → func ≡ None
    → callees ≡ []
    → fixed ≡ []
    → code ≡ []
    → over ≡ false
    → late_lines front spaces protos func callees fixed code over ≡ front ++ map (proto_line spaces) protos
up_to_protos front spaces protos func callees fixed code over f c x o e =
    let protos_lines : List Line = map (proto_line spaces) protos in
    nil_end _ (code_lines spaces code ++ end_lines over)
    (ap (λ (t : Bool). code_lines spaces code ++ end_lines t) e ∙ append-nil _ ∙ ap (code_lines spaces) o)
    ∙ nil_end _ (map (bytes_line spaces) fixed) (ap (map (bytes_line spaces)) x)
    ∙ nil_end _ (map (function_line (codes "callee") spaces protos) callees)
    (ap (map (function_line (codes "callee") spaces protos)) c)
    ∙ nil_end (front ++ protos_lines) (func_lines spaces protos func) (ap (func_lines spaces protos) f)

pub up_to_callees :
    (front : List Line) (spaces : List Space) (protos : List Proto) (func : Option Function) (callees : List Function)
    (fixed : List Fixed) (code : List Instruction) (over : Bool)
    → fixed ≡ [] → code ≡ [] → over ≡ false
    → late_lines front spaces protos func callees fixed code over
    ≡ ((front ++ map (proto_line spaces) protos) ++ func_lines spaces protos func) ++ map
    (function_line (codes "callee") spaces protos) callees
up_to_callees front spaces protos func callees fixed code over x o e =
    nil_end _ (code_lines spaces code ++ end_lines over)
    (ap (λ (t : Bool). code_lines spaces code ++ end_lines t) e ∙ append-nil _ ∙ ap (code_lines spaces) o)
    ∙ nil_end _ (map (bytes_line spaces) fixed) (ap (map (bytes_line spaces)) x)

pub up_to_bytes :
    (front : List Line) (spaces : List Space) (protos : List Proto) (func : Option Function) (callees : List Function)
    (fixed : List Fixed) (code : List Instruction) (over : Bool)
    → code ≡ [] → over ≡ false
    → late_lines front spaces protos func callees fixed code over
    ≡ (((front ++ map (proto_line spaces) protos) ++ func_lines spaces protos func)
    ++ map (function_line (codes "callee") spaces protos) callees)
    ++ map (bytes_line spaces) fixed
up_to_bytes front spaces protos func callees fixed code over o e =
    nil_end _ (code_lines spaces code ++ end_lines over)
    (ap (λ (t : Bool). code_lines spaces code ++ end_lines t) e ∙ append-nil _ ∙ ap (code_lines spaces) o)

-- ---- one line more

map_more : {A : Type 0} (f : A → Line) (xs : List A) (x : A) → map f (xs ++ x ∷ []) ≡ map f xs ++ f x ∷ []
map_more f [] x = refl
map_more f (y ∷ xs) x = ap (λ (r : List Line). f y ∷ r) (map_more f xs x)

-- the last of the lists grows
grown : {A : Type 0} (front : List Line) (f : A → Line) (xs : List A) (x : A)
    → front ++ map f (xs ++ x ∷ []) ≡ (front ++ map f xs) ++ f x ∷ []
grown front f xs x =
    ap (λ (r : List Line). front ++ r) (map_more f xs x) ∙ sym (append_assoc front (map f xs) (f x ∷ []))

pub space_grows : (version : Option ℕ) (spaces : List Space) (new : Space) (stack : Option Varnode)
    → 0 < length spaces
    → is_some stack ≡ false
    → early_lines version (spaces ++ new ∷ []) stack
    ≡ early_lines version spaces stack ++ space_line (version_of version) new ∷ []
space_grows version [] new stack some none = absurd (omega arith)
space_grows version (s ∷ spaces) new (Some v) some none = cc
space_grows version (s ∷ spaces) new None some none =
    append-nil _ ∙ grown (version_lines version) (space_line (version_of version)) spaces new
    ∙ ap (λ (r : List Line). r ++ space_line (version_of version) new ∷ [])
    (sym (append-nil (version_lines version ++ map (space_line (version_of version)) spaces)))

pub protos_grow : (front : List Line) (spaces : List Space) (protos : List Proto) (new : Proto)
    → front ++ map (proto_line spaces) (protos ++ new ∷ [])
    ≡ (front ++ map (proto_line spaces) protos) ++ proto_line spaces new ∷ []
protos_grow front spaces protos new = grown front (proto_line spaces) protos new

pub callees_grow :
    (front : List Line) (spaces : List Space) (protos : List Proto) (callees : List Function) (new : Function)
    → front ++ map (function_line (codes "callee") spaces protos) (callees ++ new ∷ [])
    ≡ (front ++ map (function_line (codes "callee") spaces protos) callees) ++ function_line (codes "callee") spaces
    protos new ∷ []
callees_grow front spaces protos callees new = grown front (function_line (codes "callee") spaces protos) callees new

pub bytes_grow : (front : List Line) (spaces : List Space) (fixed : List Fixed) (new : Fixed)
    → front ++ map (bytes_line spaces) (fixed ++ new ∷ [])
    ≡ (front ++ map (bytes_line spaces) fixed) ++ bytes_line spaces new ∷ []
bytes_grow front spaces fixed new = grown front (bytes_line spaces) fixed new

at_more : (spaces : List Space) (code : List Instruction) (address length : ℕ)
    → code_lines spaces (code ++ record { address = address; length = length; ops = [] } ∷ [])
    ≡ code_lines spaces code ++ at_line (record { address = address; length = length; ops = [] }) ∷ []
at_more spaces [] address length = refl
at_more spaces (i ∷ code) address length =
    ap (λ (r : List Line). at_line i ∷ map (op_line spaces) i.ops ++ r) (at_more spaces code address length)
    ∙ ap (λ (r : List Line). at_line i ∷ r) (sym (append_assoc (map (op_line spaces) i.ops) (code_lines spaces code) _))

pub at_grows : (front : List Line) (spaces : List Space) (code : List Instruction) (address length : ℕ) (over : Bool)
    → over ≡ false
    → front ++
    (code_lines spaces (code ++ record { address = address; length = length; ops = [] } ∷ []) ++ end_lines over)
    ≡ (front ++ (code_lines spaces code ++ end_lines over)) ++ at_line
    (record { address = address; length = length; ops = [] }) ∷ []
at_grows front spaces code address length true e = cc
at_grows front spaces code address length false e =
    let line : Line = at_line (record { address = address; length = length; ops = [] }) in
    ap (λ (r : List Line). front ++ r)
    (append-nil _
    ∙ at_more spaces code address length
    ∙ ap (λ (r : List Line). r ++ line ∷ []) (sym (append-nil (code_lines spaces code))))
    ∙ sym (append_assoc front (code_lines spaces code ++ []) (line ∷ []))

op_more : (spaces : List Space) (done : List Instruction) (i : Instruction) (op : Op)
    → code_lines spaces (done ++ record i { ops = i.ops ++ op ∷ [] } ∷ [])
    ≡ code_lines spaces (done ++ i ∷ []) ++ op_line spaces op ∷ []
op_more spaces [] i op =
    ap (λ (r : List Line). at_line i ∷ r)
    (append-nil _
    ∙ map_more (op_line spaces) i.ops op
    ∙ ap (λ (r : List Line). r ++ op_line spaces op ∷ []) (sym (append-nil (map (op_line spaces) i.ops))))
op_more spaces (d ∷ done) i op =
    ap (λ (r : List Line). at_line d ∷ map (op_line spaces) d.ops ++ r) (op_more spaces done i op)
    ∙ ap (λ (r : List Line). at_line d ∷ r)
    (sym (append_assoc (map (op_line spaces) d.ops) (code_lines spaces (done ++ i ∷ [])) _))

pub op_grows : (front : List Line) (spaces : List Space) (done : List Instruction) (i : Instruction) (op : Op)
    (over : Bool)
    → over ≡ false
    → front ++ (code_lines spaces (done ++ record i { ops = i.ops ++ op ∷ [] } ∷ []) ++ end_lines over)
    ≡ (front ++ (code_lines spaces (done ++ i ∷ []) ++ end_lines over)) ++ op_line spaces op ∷ []
op_grows front spaces done i op true e = cc
op_grows front spaces done i op false e =
    ap (λ (r : List Line). front ++ r)
    (append-nil _
    ∙ op_more spaces done i op
    ∙ ap (λ (r : List Line). r ++ op_line spaces op ∷ []) (sym (append-nil (code_lines spaces (done ++ i ∷ [])))))
    ∙ sym (append_assoc front (code_lines spaces (done ++ i ∷ []) ++ []) _)

pub end_grows : (front code : List Line) (over : Bool)
    → over ≡ false
    → front ++ (code ++ end_lines true) ≡ (front ++ (code ++ end_lines over)) ++ codes "end" ∷ []
end_grows front code true e = cc
end_grows front code false e =
    ap (λ (r : List Line). front ++ (r ++ codes "end" ∷ [])) (sym (append-nil code))
    ∙ sym (append_assoc front (code ++ []) (codes "end" ∷ []))

-- ---- the whole text

code_text_is : (spaces : List Space) (code : List Instruction) → code_text spaces code ≡ ended (code_lines spaces code)
code_text_is spaces [] = refl
code_text_is spaces (i ∷ code) =
    ap (λ (r : List ℕ). ended (at_line i ∷ []) ++ ended (map (op_line spaces) i.ops) ++ r) (code_text_is spaces code)
    ∙ ap (λ (r : List ℕ). r ++ ended (code_lines spaces code))
    (sym (ended_append (at_line i ∷ []) (map (op_line spaces) i.ops)))
    ∙ sym (ended_append (at_line i ∷ map (op_line spaces) i.ops) (code_lines spaces code))

-- lists that are joined from the left, and from the right
sections : (a b c d e f g h i : List Line) → ended (((((((a ++ b) ++ c) ++ d) ++ e) ++ f) ++ g) ++ (h ++ i))
    ≡ (ended a ++ ended b ++ ended c ++ ended d ++ ended e ++ ended f) ++ (ended g ++ ended h ++ ended i)
sections a b c d e f g h i = simp (append_assoc, ended_append)

pub text_is : (s : PartialListing) (version : ℕ) (func : Function)
    → s.ended ≡ true
    → s.version ≡ Some version
    → s.func ≡ Some func
    → text_of (listing_of s version func) ≡ ended (said_lines s)
text_is s version func e v f =
    let spaces : List Space = s.spaces in
    let protos : List Proto = s.protos in
    let code : List Instruction = s.done ++ option_to_list s.last in
    let front : List Line = early_lines (Some version) spaces s.stack in
    ap
    (λ (r : List ℕ).
    header_text (listing_of s version func) ++
    (ended (map (bytes_line spaces) s.fixed) ++ r ++ ended (codes "end" ∷ []))) (code_text_is spaces code)
    ∙ sym
    (sections (version_lines (Some version)) (map (space_line version) (declared spaces)) (stack_lines spaces s.stack)
    (map (proto_line spaces) protos) (func_lines spaces protos (Some func))
    (map (function_line (codes "callee") spaces protos) s.callees) (map (bytes_line spaces) s.fixed)
    (code_lines spaces code) (end_lines true))
    ∙ ap (λ (t : Bool). ended (late_lines front spaces protos (Some func) s.callees s.fixed code t)) (sym e)
    ∙ ap (λ (o : Option Function). ended (late_lines front spaces protos o s.callees s.fixed code s.ended)) (sym f)
    ∙ ap
    (λ (o : Option ℕ).
    ended (late_lines (early_lines o spaces s.stack) spaces protos s.func s.callees s.fixed code s.ended)) (sym v)
