-- Worked runs, by computation.
use Rattle.std.proofs.Common.{◌≡◌, ◌∙◌, ◌&&◌, ℕ, Bool, true, false, List, ◌∷◌, [], Option, Some, None, IsTrue, ap, refl, subst, sym}
use Rattle.std.specs.Prelude.{codes}
use Rattle.bits_core.specs.Value.{limit, half, neg, add, sub, div, left, sright, ne}
use Rattle.cmeaning.specs.declared.tree.ArithmeticOp.TheVariants.{Add, Sub}
use Rattle.cmeaning.specs.declared.tree.ShiftOp.TheVariants.{Shl, Sar}
use Rattle.cmeaning.specs.declared.tree.CompareOp.TheVariants.{Ne}
use Rattle.cmeaning.specs.declared.tree.StatementDivision.TheVariants.{Div}
use Rattle.cmeaning.specs.declared.tree.Expr.TheVariants as E
use Rattle.cmeaning.specs.declared.tree.Stmt.{Stmt, fold-roll-Stmt}
use Rattle.cmeaning.specs.declared.tree.Stmt.TheOpen.{Stmt-F}
use Rattle.cmeaning.specs.declared.tree.Stmt.TheVariants as S
use Rattle.cmeaning.specs.declared.tree.Expr.{Expr}
use Rattle.pcode_model.specs.declared.listing.Listing.{Listing}
use Rattle.cmeaning.specs.Do.{widths_in}
use Rattle.cmeaning.specs.Fits.{arm_step, body_fits, fits_step, names_ram, stmt_fits}
use Rattle.cmeaning.specs.Flat.{Do, Test, Jump, Choose, Give, flat_of}
use Rattle.cmeaning.specs.Examples.{zero, one, hundred, bits, place, param, local, register_place}
use Rattle.cmeaning.specs.Worked as worked
use Rattle.cmeaning.proofs.Value.{value_of_const, value_of_var, value_of_arithmetic, value_of_shift, value_of_compare, width_of_const, width_of_var, width_of_arithmetic, width_of_shift, width_of_compare}
use Rattle.cmeaning.proofs.Do.{do_assign, do_load, do_store, do_call, do_extra, do_divide}
use Rattle.cmeaning.proofs.Flat.{piece_of_assign, piece_of_load, piece_of_store, piece_of_call, piece_of_extra, piece_of_divide, piece_of_if, piece_of_if_else, piece_of_while, piece_of_do_while, piece_of_loop, piece_of_break, piece_of_switch, piece_of_goto, piece_of_label, piece_of_return, branch_is}

-- the flat code of a body
ruleset pieces = (
  piece_of_assign,
  piece_of_load,
  piece_of_store,
  piece_of_call,
  piece_of_extra,
  piece_of_divide,
  piece_of_if,
  piece_of_if_else,
  piece_of_while,
  piece_of_do_while,
  piece_of_loop,
  piece_of_break,
  piece_of_switch,
  piece_of_goto,
  piece_of_label,
  piece_of_return,
  branch_is,
)

-- statements and expressions
ruleset steps = (
  do_assign,
  do_load,
  do_store,
  do_call,
  do_extra,
  do_divide,
  value_of_const,
  value_of_var,
  value_of_arithmetic,
  value_of_shift,
  value_of_compare,
  width_of_const,
  width_of_var,
  width_of_arithmetic,
  width_of_shift,
  width_of_compare,
)

flat_adds : flat_of worked.adds_c ≡ Give (Some (E.Arithmetic Add param one)) ∷ []
unfolding flat_of
flat_adds = simp pieces

pub one_addition : worked.OneAddition
unfolding add limit
one_addition = record { pcode = refl; c = simp (flat_adds, steps) }

flat_divides : flat_of worked.divides_c
    ≡ Do (S.Divide 1 Div hundred param) ∷ Do (S.Store None place local) ∷ Give (Some local) ∷ []
unfolding flat_of
flat_divides = simp pieces

pub division_by_zero : worked.DivisionByZero
unfolding div limit
division_by_zero = record {
  pcode = refl;
  c = simp (flat_divides, steps);
  pcode_divides = refl;
  c_divides = simp (flat_divides, steps);
}

flat_empty : flat_of worked.empty_c ≡ []
unfolding flat_of
flat_empty = refl

flat_unassigned : flat_of worked.unassigned_c ≡ Do (S.Call None 0x2000 (local ∷ [])) ∷ Give (Some zero) ∷ []
unfolding flat_of
flat_unassigned = simp pieces

flat_divides_unassigned : flat_of worked.divides_unassigned_c ≡ Do (S.Divide 1 Div local zero) ∷ []
unfolding flat_of
flat_divides_unassigned = simp pieces

pub undefined_runs : worked.UndefinedRuns
undefined_runs = record {
  falls_off = simp flat_empty;
  operand = simp (flat_unassigned, steps);
  before_division = simp (flat_divides_unassigned, steps);
}

flat_calls : flat_of worked.calls_c
    ≡ Do (S.Call None 0x2000 (param ∷ [])) ∷ Do (S.Load 1 None place) ∷ Give (Some local) ∷ []
unfolding flat_of
flat_calls = simp pieces

pub calls : worked.Calls
unfolding limit
calls = record {
  pcode = refl;
  c = simp (flat_calls, steps);
  pcode_hides = refl;
  c_hides = simp (flat_calls, steps);
  pcode_reads_hidden = refl;
  c_reads_hidden = simp (flat_calls, steps);
  pcode_no_answer = refl;
  c_no_answer = simp (flat_calls, steps);
}

flat_dies : flat_of worked.dies_c ≡ Do (S.Call None 0x2000 (param ∷ [])) ∷ []
unfolding flat_of
flat_dies = simp pieces

pub never_returns : worked.NeverReturns
never_returns = record { pcode = refl; c = simp (flat_dies, steps) }

flat_fixes : flat_of worked.fixes_c ≡ Do (S.Store None place param) ∷ Give (Some zero) ∷ []
unfolding flat_of
flat_fixes = simp pieces

pub read_only_store : worked.ReadOnlyStore
read_only_store = record { pcode = refl; c = simp (flat_fixes, steps) }

flat_leaves : flat_of worked.leaves_c
    ≡ Do (S.Call None 0x2000 (param ∷ [])) ∷ Do (S.Extra 1 0x38) ∷ Give (Some local) ∷ []
unfolding flat_of
flat_leaves = simp pieces

pub left_by_call : worked.LeftByCall
unfolding limit
left_by_call = record { pcode = refl; c = simp (flat_leaves, steps) }

flat_counts : flat_of worked.counts_c
    ≡ Do (S.Assign 0 (E.Arithmetic Sub param one)) ∷ Do (S.Store None place param) ∷ Test (E.Compare Ne param zero) 0
    3 ∷ Give (Some param) ∷ []
unfolding flat_of
flat_counts = simp pieces

pub runs_twice : worked.RunsTwice
unfolding limit sub ne
runs_twice = record { pcode = refl; c = simp (flat_counts, steps) }

flat_wanders : flat_of worked.wanders_c
    ≡ Test param 1 3 ∷ Do (S.Assign 1 one) ∷ Jump 4 ∷ Jump 0 ∷ Test param 5 8 ∷ Test local 6 7 ∷ Jump 8 ∷ Jump
    4 ∷ Jump 10 ∷ Jump 8 ∷ Give (Some local) ∷ []
unfolding flat_of
flat_wanders = simp pieces

flat_chooses : flat_of worked.chooses_c
    ≡ Choose param ((1, 1) ∷ (2, 1) ∷ (3, 2) ∷ []) 4 ∷ Give (Some one) ∷ Do (S.Assign 1 zero) ∷ Jump 4 ∷ Give
    (Some param) ∷ []
unfolding flat_of
flat_chooses = simp pieces

pub flat_code : worked.FlatCode
flat_code = record {
  wanders = flat_wanders;
  chooses = flat_chooses;
  first_arm = simp (flat_chooses, steps);
  second_arm = simp (flat_chooses, steps);
  no_arm = simp (flat_chooses, steps);
}

pub relative_branch : worked.RelativeBranch
unfolding limit half
relative_branch = record { over_one = refl; to_next = refl; back = refl; past = refl; before = refl }

flat_shifts : flat_of worked.shifts_c ≡ Give (Some (E.Shift Shl param bits)) ∷ []
unfolding flat_of
flat_shifts = simp pieces

flat_shifts_signed : flat_of worked.shifts_signed_c ≡ Give (Some (E.Shift Sar (E.Arithmetic Sub zero one) bits)) ∷ []
unfolding flat_of
flat_shifts_signed = simp pieces

pub shift_by_width : worked.ShiftByWidth
unfolding limit half left sub sright
shift_by_width = record {
  pcode = refl;
  c = simp (flat_shifts, steps);
  pcode_signed = refl;
  c_signed = simp (flat_shifts_signed, steps);
}

pub wraps : worked.Wraps
unfolding limit add sub neg
wraps = record {
  byte_up = refl;
  byte_down = refl;
  byte_negated = refl;
  widest_up = refl;
  widest_down = refl;
  widest_negated = refl;
}

pub goes_on_at_zero : worked.GoesOnAtZero
goes_on_at_zero = refl

flat_reads_register : flat_of worked.reads_register_c
    ≡ Do (S.Load 0 (Some (codes "register")) register_place) ∷ Give (Some (E.Arithmetic Add param one)) ∷ []
unfolding flat_of
flat_reads_register = simp pieces

-- a load of a named space fits where it is a ram space other than the first
load_fits : (l : Listing) (ws : ℕ → ℕ) (v : ℕ) (space : Option (List ℕ)) (address : Expr)
    → stmt_fits l ws (S.Load v space address) ≡ names_ram l space
unfolding stmt_fits
load_fits l ws v space address =
    ap (stmt_fits l ws) (sym (S.rolls-Load v space address))
    ∙ fold-roll-Stmt Bool Bool (fits_step l ws) arm_step (Stmt-F.Load v space address)

return_fits : (l : Listing) (ws : ℕ → ℕ) (e : Option Expr) → stmt_fits l ws (S.Return e) ≡ true
unfolding stmt_fits
return_fits l ws e =
    ap (stmt_fits l ws) (sym (S.rolls-Return e)) ∙ fold-roll-Stmt Bool Bool (fits_step l ws) arm_step (Stmt-F.Return e)

pub register_as_memory : worked.RegisterAsMemory
unfolding add limit
register_as_memory = record {
  c = simp (flat_reads_register, steps);
  misfits = λ fits. refused fits.body;
  fits = record { params = refl; body = subst (λ b. IsTrue (b && true)) (sym adds_fits) refl };
}
  where
    adds_fits : stmt_fits worked.adds (widths_in worked.adds_c) (S.Return (Some (E.Arithmetic Add param one))) ≡ true
    adds_fits = return_fits worked.adds (widths_in worked.adds_c) (Some (E.Arithmetic Add param one))

    refused : IsTrue (body_fits worked.adds (widths_in worked.reads_register_c) worked.reads_register_c.body) → ⊥
    refused h =
        let no_load : false ≡ true = subst (λ b. IsTrue (b
        && (stmt_fits worked.adds (widths_in worked.reads_register_c) (S.Return (Some (E.Arithmetic Add param one))) && true)))
        (load_fits worked.adds (widths_in worked.reads_register_c) 0 (Some (codes "register")) register_place) h in
        cc
