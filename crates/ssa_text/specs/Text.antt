-- The text of an SSA function. This project's own.
use Rattle.std.specs.Prelude.{ℕ, zero, suc, ◌==◌, not, Bool, true, false, if◌then◌else◌, ℤ, pos, negsuc, List, [], ◌∷◌, ◌++◌, codes, decimal, Option, Some, None, slice_get, slice_index_or}
use Rattle.bits_core.specs.declared.ops.Unary.TheVariants as U
use Rattle.bits_core.specs.declared.ops.Binary.TheVariants as B
use Rattle.pcode_model.specs.declared.listing.Listing.{Listing}
use Rattle.pcode_model.specs.declared.storage.ParamStorage.{ParamStorage}
use Rattle.pcode_model.specs.declared.storage.ParamStorage.TheVariants.{Register, Unique, Stack}
use Rattle.operations.specs.Words.{unary_word, binary_word, divide_word}
use Rattle.cmeaning.specs.Value.{unary_of, arithmetic_of, shift_of, compare_of, signed_compare_of, extend_of, overflow_of, count_of}
use Rattle.cmeaning.specs.Do.{divide_of}
use Rattle.ctext.specs.Names.{hex}
use Rattle.node_lists.specs.Chains.{last_or}
use Rattle.opgraph.specs.Graph.{OpRow, Graph, op_at, block_at}
use Rattle.ssa_model.specs.declared.form.Arm.{Arm}
use Rattle.ssa_model.specs.declared.form.SsaExit.{SsaExit}
use Rattle.ssa_model.specs.declared.form.SsaExit.TheVariants as X
use Rattle.ssa_model.specs.declared.form.SsaBlock.{SsaBlock}
use Rattle.ssa_model.specs.declared.form.Parts.{Parts}
use Rattle.ssa_model.specs.Roles.{Role, Constant, Starts, Joins, Copies, Unary, Arithmetic, Shifts, Compares, Signed, Extends, Piece, Part, Overflow, Count, Divides, Loads, Stores, Calls, CallsInd, CallsOther, Extra, Tests, Switches, Returns, role_of}
use Rattle.ssa_model.specs.Outline.{bytes_of, ids, multis_of, numbers_of, only, role_at, width_at}
use Rattle.ssa_model.specs.Starting.{starting}
use Rattle.ssa_model.specs.Lines.{last_inputs, name_in}

-- ---- the order of the lines

-- a constant prints where it is read, and an exit's op with the exit
abbrev pub has_line : Option Role → Bool
has_line None = false
has_line (Some (Constant n)) = false
has_line (Some (Starts s)) = false
has_line (Some (Joins atom)) = false
has_line (Some Tests) = false
has_line (Some Switches) = false
has_line (Some Returns) = false
has_line (Some role) = true

-- these first where the run begins, then the MULTIEQUALs by their atoms, then the others as they stand
abbrev pub lines_from : Parts → List ℕ → ℕ → List ℕ
lines_from p starts b =
    let rows = op_at p.graph in
    let ops = block_at p.graph b in
    (if b == p.entry.0 then starts else []) ++ (multis_of rows ops ++ only (λ x. has_line (role_at rows x)) ops)

-- the entry values first
abbrev pub lines_in : Parts → ℕ → List ℕ
lines_in p b = lines_from p (starting p) b

abbrev pub all_lines : Parts → List ℕ → List ℕ → List ℕ
all_lines p starts [] = []
all_lines p starts (b ∷ bs) = lines_from p starts b ++ all_lines p starts bs

abbrev pub printed_from : Parts → List ℕ → List ℕ
printed_from p starts = only (λ x. not (width_at (op_at p.graph) x == 0)) (all_lines p starts (ids p.blocks))

-- the values that have a line, in the order of the lines
abbrev pub printed : Parts → List ℕ
printed p = printed_from p (starting p)

abbrev pub one_later : ℕ → ℕ
one_later zero = 0
one_later (suc n) = suc (suc n)

-- the place of a number in a list, from 1 on, 0 where it isn't there
abbrev pub place_in : ℕ → List ℕ → ℕ
place_in x [] = 0
place_in x (y ∷ ys) = if y == x then 1 else one_later (place_in x ys)

-- a table of places by numbers, 0 behind its end
abbrev pub place_at : List ℕ → ℕ → ℕ
place_at table x = slice_index_or table x 0

-- ---- parts of lines

abbrev pub hexadecimal : ℕ → List ℕ
hexadecimal n = codes "0x" ++ hex n

abbrev pub constant_part : ℕ → ℕ → List ℕ
constant_part n w = hexadecimal n ++ (codes ":" ++ decimal w)

abbrev pub numbered : ℕ → List ℕ
numbered n = codes "n" ++ decimal n

-- by the place among the printed values
abbrev pub value_by : Option Role → ℕ → ℕ → List ℕ
value_by (Some (Constant n)) w place = constant_part n w
value_by role w place = numbered place

abbrev pub offset_part : ℤ → List ℕ
offset_part (pos n) = codes ":0x" ++ hex n
offset_part (negsuc n) = codes ":-0x" ++ hex (suc n)

abbrev pub storage_part : ParamStorage → List ℕ
storage_part (Register offset) = codes "register:0x" ++ hex offset
storage_part (Unique offset) = codes "unique:0x" ++ hex offset
storage_part (Stack offset) = codes "stack" ++ offset_part offset

-- `nN:W = `, where there is a value
abbrev pub named : ℕ → ℕ → List ℕ
named place w = if w == 0 then [] else codes " " ++ (numbered place ++ (codes ":" ++ (decimal w ++ codes " =")))

-- ---- lines, by the places of values and of blocks

module _ (l : Listing) (g : Graph) (place block_place : ℕ → ℕ) where
  abbrev pub value : ℕ → List ℕ
  value v = value_by (role_at (op_at g) v) (width_at (op_at g) v) (place v)

  abbrev pub block : ℕ → List ℕ
  block b = codes "b" ++ decimal (block_place b)

  abbrev pub values : List ℕ → List ℕ
  values [] = []
  values (v ∷ vs) = codes " " ++ (value v ++ values vs)

  -- the inputs of a MULTIEQUAL, each behind its predecessor, in the order of the blocks
  abbrev pub joined_part : ℕ → List ℕ → List ℕ → List ℕ
  joined_part b [] vs = []
  joined_part b (q ∷ qs) [] = []
  joined_part b (q ∷ qs) (v ∷ vs) =
      if q == b then codes " " ++ (block b ++ (codes ":" ++ value v)) else joined_part b qs vs

  abbrev pub joined : List ℕ → List ℕ → List ℕ → List ℕ
  joined [] before vs = []
  joined (b ∷ bs) before vs = joined_part b before vs ++ joined bs before vs

  -- a word, and the values that are read
  abbrev pub said : List ℕ → List ℕ → List ℕ
  said word vs = codes " " ++ (word ++ values vs)

  abbrev pub space_name : ℕ → List ℕ
  space_name space = name_in (slice_get l.spaces space)

  -- the word of an op and what stands behind it, by the blocks, the predecessors of its block, its width and the values
  -- that it reads
  abbrev pub words : List ℕ → List ℕ → Role → ℕ → List ℕ → List ℕ
  words bs before (Constant n) w vs = []
  words bs before (Starts s) w vs = codes " ENTRY " ++ (storage_part s ++ (codes ":" ++ decimal w))
  words bs before (Joins atom) w vs = codes " MULTIEQUAL" ++ joined bs before vs
  words bs before Copies w vs = said (unary_word U.Copy) vs
  words bs before (Unary op) w vs = said (unary_word (unary_of op)) vs
  words bs before (Arithmetic op) w vs = said (binary_word (arithmetic_of op)) vs
  words bs before (Shifts op) w vs = said (binary_word (shift_of op)) vs
  words bs before (Compares op) w vs = said (binary_word (compare_of op)) vs
  words bs before (Signed op) w vs = said (binary_word (signed_compare_of op)) vs
  words bs before (Extends op) w vs = said (unary_word (extend_of op)) vs
  words bs before Piece w vs = said (binary_word B.Piece) vs
  words bs before (Part dropped) w vs = said (binary_word B.Subpiece) vs ++ (codes " " ++ hexadecimal dropped)
  words bs before (Overflow op) w vs = said (binary_word (overflow_of op)) vs
  words bs before (Count op) w vs = said (unary_word (count_of op)) vs
  words bs before (Divides op) w vs = said (divide_word (divide_of op)) vs
  words bs before (Loads space) w vs = said (codes "LOAD " ++ space_name space) vs
  words bs before (Stores space) w vs = said (codes "STORE " ++ space_name space) vs
  words bs before (Calls callee) w vs = said (codes "CALL " ++ hexadecimal callee) vs
  words bs before CallsInd w vs = said (codes "CALLIND") vs
  words bs before (CallsOther index) w vs = said (codes "CALLOTHER " ++ hexadecimal index) vs
  words bs before (Extra offset) w vs = codes " EXTRAOUT " ++ hexadecimal offset
  words bs before Tests w vs = []
  words bs before Switches w vs = []
  words bs before Returns w vs = []

  abbrev pub row_line : List ℕ → List ℕ → ℕ → Option OpRow → List ℕ
  row_line bs before x None = codes "\n"
  row_line bs before x (Some r) =
      codes " "
      ++ (named (place x) (bytes_of r.width) ++ (words bs before (role_of r.code) (bytes_of r.width) r.inputs ++ codes "\n"))

  abbrev pub op_lines : List ℕ → List ℕ → List ℕ → List ℕ
  op_lines bs before [] = []
  op_lines bs before (x ∷ xs) = row_line bs before x (op_at g x) ++ op_lines bs before xs

  abbrev pub cases : List Arm → List ℕ
  cases [] = []
  cases (a ∷ arms) = codes " " ++ (hexadecimal a.value ++ (codes ":" ++ (block a.to.0 ++ cases arms)))

  abbrev pub exit_words : SsaExit → List ℕ → List ℕ
  exit_words X.Return vs = codes "  RETURN" ++ values vs
  exit_words (X.Jump to) vs = codes "  GOTO " ++ block to.0
  exit_words (X.Test taken other) vs =
      codes "  IF" ++ (values vs ++ (codes " " ++ (block taken.0 ++ (codes " " ++ block other.0))))
  exit_words (X.Switch arms) vs = codes "  SWITCH" ++ (values vs ++ cases arms)
  exit_words X.Stop vs = codes "  STOP"

-- ---- the whole, each line ended by LF

module _ (l : Listing) (p : Parts) where
  abbrev pub places : ℕ → ℕ
  places x = place_in x (printed p)

  abbrev pub block_places : ℕ → ℕ
  block_places b = place_in b (ids p.blocks)

  abbrev pub block_text : SsaBlock → List ℕ
  block_text x =
      let g = p.graph in
      block l g places block_places x.id.0
      ++ (codes ":\n"
      ++ (op_lines l g places block_places (ids p.blocks) (numbers_of x.predecessors) (lines_in p x.id.0)
      ++ (exit_words l g places block_places x.exit (last_inputs g (last_or None (block_at g x.id.0))) ++ codes "\n")))

  abbrev pub blocks_text : List SsaBlock → List ℕ
  blocks_text [] = []
  blocks_text (x ∷ xs) = block_text x ++ blocks_text xs

  abbrev pub ssa_text : List ℕ
  ssa_text = codes "ssa f_" ++ (l.func.name ++ (codes "\n" ++ blocks_text p.blocks))
