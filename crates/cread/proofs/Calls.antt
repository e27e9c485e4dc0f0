-- Memory accesses, calls and divisions are read again.
use Rattle.std.proofs.Common.{◌≡◌, ℕ, ◌*◌, ◌%◌, ◌^◌, ◌<◌, true, false, eqb, ◌&&◌, List, [], ◌∷◌, ◌++◌, length, Option, Some, None, refl, sym, ap, ◌∙◌, subst, arith, append_assoc, length-append, inl, inr}
use Rattle.std.specs.List.{list_all}
use Rattle.std.specs.Prelude.{codes, not}
use Rattle.std.specs.Fmt.{decimal}
use Rattle.std.proofs.lemmas.Bool.{ltb-true, eqb-true, cases_Bool, and_parts}
use Rattle.cmeaning.specs.Valid.{is_long, is_space, is_callee, is_callee_name, result_fits, same_callee_name, are_apart, is_apart_from, are_callees}
use Rattle.cmeaning.specs.Do.{same_name}
use Rattle.cmeaning.specs.declared.tree.CName.{CName}
use Rattle.cmeaning.specs.declared.tree.CName.TheVariants.{Declared, Bare}
use Rattle.cmeaning.specs.declared.tree.CalleeDecl.{CalleeDecl}
use Rattle.cmeaning.specs.declared.tree.StatementDivision.{StatementDivision}
use Rattle.cmeaning.specs.declared.tree.StatementDivision.TheVariants as D
use Rattle.cmeaning.specs.declared.tree.Expr.{Expr}
use Rattle.cmeaning.specs.declared.tree.Stmt.{Stmt}
use Rattle.cmeaning.specs.declared.tree.Stmt.TheVariants as s
use Rattle.listing_lines.specs.Tokens.{is_name_byte}
use Rattle.cmeaning.specs.Callees.{declared_in}
use Rattle.cmeaning.proofs.Names.{name_bytes}
use Rattle.ctext.specs.Names.{Scope, hex, separated, further, callee_name, name_at as name_of}
use Rattle.ctext.specs.Expressions.{form, call_of_two}
use Rattle.ctext.specs.Statements.{loop_head, access_text, plain_texts, division_word}
use Rattle.cread.specs.declared.item.Right.TheVariants as R
use Rattle.cread.specs.Words.{after, run_of, past_spaces, hex_at}
use Rattle.cread.specs.Names.{type_at, is_whole, is_named, address_of}
use Rattle.cread.specs.Statements.{line_at, plain_line_at, right_at, division_at, access_of, pointed_at, memory_at, with_args, named_call, bare_call, indirect_call, other_call, extra_at, divide_at, loaded, right_by}
use Rattle.cread.proofs.Naming.{at_close, at_comma}
use Rattle.cread.proofs.Fronts.{hex_again, decimal_again, name_again}
use Rattle.cread.proofs.Parts.{Written, value_again, AllWritten, before_others, further_again, args_again, Plainly, RightText}

-- ---- memory

-- ---- names of callees

same_rest : (w b : ℕ) (ws bs : List ℕ)
    → eqb w b ≡ true
    → is_whole (after (w ∷ ws) (b ∷ bs)) ≡ true
    → is_whole (after ws bs) ≡ true
unfolding after
same_rest w b ws bs is h = rw is at h

other_rest : (w b : ℕ) (ws bs : List ℕ) → eqb w b ≡ false → is_whole (after (w ∷ ws) (b ∷ bs)) ≡ true → false ≡ true
unfolding after
other_rest w b ws bs is h = rw is at h

pub whole_self : (n : List ℕ) → is_whole (after n n) ≡ true
unfolding after
whole_self [] = refl
whole_self (w ∷ ws) = let same : eqb w w ≡ true = grind arith in rw same (whole_self ws)

pub whole_is : (n name : List ℕ) → is_whole (after n name) ≡ true → n ≡ name
unfolding after
whole_is [] [] h = refl
whole_is [] (x ∷ xs) h = absurd cc
whole_is (w ∷ ws) [] h = absurd cc
whole_is (w ∷ ws) (b ∷ bs) h =
    elim (cases_Bool (eqb w b)) [
      | inl same_byte ↦ let here : w ≡ b = eqb-true _ _ same_byte in
          let more = whole_is ws bs (same_rest w b ws bs same_byte h) in rw (here, more) refl
      | inr other ↦ absurd (let never = other_rest w b ws bs other h in cc)
    ]

named_is : (n : List ℕ) (d : CName) → is_named n d ≡ true → d ≡ Declared n
named_is n (Declared m) h = ap Declared (whole_is m n h)
named_is n Bare h = absurd cc

named_self : (n : List ℕ) → is_named n (Declared n) ≡ true
named_self n = whole_self n

first_is : (c : CalleeDecl) (cs : List CalleeDecl) (address : ℕ) (d : CalleeDecl)
    → eqb c.address address ≡ true
    → declared_in (c ∷ cs) address ≡ Some d
    → c ≡ d
first_is c cs address d is at = let f = rw is at at in let e : Some c ≡ Some d = f in cc

rest_is : (c : CalleeDecl) (cs : List CalleeDecl) (address : ℕ) (d : CalleeDecl)
    → eqb c.address address ≡ false
    → declared_in (c ∷ cs) address ≡ Some d
    → declared_in cs address ≡ Some d
rest_is c cs address d is at = rw is at at

same_name_self : (n : List ℕ) → same_name n n ≡ true
same_name_self [] = refl
same_name_self (w ∷ ws) = let same : eqb w w ≡ true = grind arith in rw same (same_name_self ws)

-- callees that are apart don't have one name
other_name : (c d : CalleeDecl) (n : List ℕ) → are_apart c d ≡ true → d.name ≡ Declared n → is_named n c.name ≡ false
other_name c d n apart is =
    elim (cases_Bool (is_named n c.name)) [
      | inl same ↦
          let name = named_is n c.name same in
          let gap = (and_parts (not (eqb c.address d.address)) (not (same_callee_name c.name d.name)) apart).1 in
          let one : same_callee_name c.name d.name ≡ true =
          ap (λ (x : CName). same_callee_name x d.name) name ∙ ap (same_callee_name (Declared n)) is
          ∙ same_name_self n in
          absurd (let never : false ≡ true = ap not (sym one) ∙ gap in cc)
      | inr other ↦ other
    ]

-- what is said of an address of one of the callees
apart_at : (c : CalleeDecl) (cs : List CalleeDecl) (address : ℕ) (d : CalleeDecl)
    → is_apart_from c cs ≡ true
    → declared_in cs address ≡ Some d
    → are_apart c d ≡ true
apart_at c [] address d h at = absurd cc
apart_at c (x ∷ xs) address d h at =
    let both = and_parts (are_apart c x) (is_apart_from c xs) h in
    elim (cases_Bool (eqb x.address address)) [
      | inl here ↦ let same = first_is x xs address d here at in ap (are_apart c) (sym same) ∙ both.0
      | inr past ↦ apart_at c xs address d both.1 (rest_is x xs address d past at)
    ]

pub callee_found : (cs : List CalleeDecl) (address : ℕ) (d : CalleeDecl) (n : List ℕ)
    → are_callees cs ≡ true
    → declared_in cs address ≡ Some d
    → d.name ≡ Declared n
    → address_of n cs ≡ Some address
callee_found [] address d n ok at is = absurd cc
callee_found (c ∷ cs) address d n ok at is =
    let three = and_parts (is_callee c) (is_apart_from c cs && are_callees cs) ok in
    let two = and_parts (is_apart_from c cs) (are_callees cs) three.1 in
    elim (cases_Bool (eqb c.address address)) [
      | inl here ↦
          let same = first_is c cs address d here at in
          let name : is_named n c.name ≡ true =
          ap (λ (x : CalleeDecl). is_named n x.name) same ∙ ap (is_named n) is ∙ named_self n in
          let there : c.address ≡ address = eqb-true _ _ here in
          rw name (ap (λ (a : ℕ). Some a) there)
      | inr past ↦
          let more = callee_found cs address d n two.1 (rest_is c cs address d past at) is in
          let apart = apart_at c cs address d two.0 (rest_is c cs address d past at) in
          let name = other_name c d n apart is in
          rw name more
    ]

pub callee_long : (cs : List CalleeDecl) (address : ℕ) (d : CalleeDecl)
    → are_callees cs ≡ true
    → declared_in cs address ≡ Some d
    → (is_callee d ≡ true) × (d.address ≡ address)
callee_long [] address d ok at = absurd cc
callee_long (c ∷ cs) address d ok at =
    let three = and_parts (is_callee c) (is_apart_from c cs && are_callees cs) ok in
    let two = and_parts (is_apart_from c cs) (are_callees cs) three.1 in
    elim (cases_Bool (eqb c.address address)) [
      | inl here ↦
          let same = first_is c cs address d here at in
          let there : c.address ≡ address = eqb-true _ _ here in
          (ap is_callee (sym same) ∙ three.0, ap (λ (x : CalleeDecl). x.address) (sym same) ∙ there)
      | inr past ↦ callee_long cs address d two.1 (rest_is c cs address d past at)
    ]

-- the word of a division
record IsDivision (word : List ℕ) (op : StatementDivision) : Type 0 where
  found : (more : List ℕ) → right_at (word ++ 40 ∷ more) ≡ Some (R.Divide op, more)
  plainly : (z : List ℕ) → Plainly (word ++ z)
  long : 0 < length word

is_division : (op : StatementDivision) → IsDivision (division_word op) op
unfolding right_at division_at line_at plain_line_at loop_head after past_spaces run_of type_at
is_division D.Div = record {
  found = λ more. refl;
  plainly = λ z. record {
    starts = record { no_space = refl; not_case = refl; not_local = refl };
    not_line = refl;
    not_break = refl;
  };
  long = omega arith;
}
is_division D.SDiv = record {
  found = λ more. refl;
  plainly = λ z. record {
    starts = record { no_space = refl; not_case = refl; not_local = refl };
    not_line = refl;
    not_break = refl;
  };
  long = omega arith;
}
is_division D.Rem = record {
  found = λ more. refl;
  plainly = λ z. record {
    starts = record { no_space = refl; not_case = refl; not_local = refl };
    not_line = refl;
    not_break = refl;
  };
  long = omega arith;
}
is_division D.SRem = record {
  found = λ more. refl;
  plainly = λ z. record {
    starts = record { no_space = refl; not_case = refl; not_local = refl };
    not_line = refl;
    not_break = refl;
  };
  long = omega arith;
}

module _ (sc : Scope) where
  pointed_again : (w : ℕ) (a : Expr) (rest : List ℕ)
      → w < 17
      → Written sc a
      → pointed_at sc (decimal (8 * w) ++ (codes " *)(" ++ ((form sc a).plain ++ 41 ∷ rest)))
      ≡ Some (access_of None a, rest)
  unfolding pointed_at after
  pointed_again w a rest small x =
      let n = decimal_again (8 * w) 32 (42 ∷ 41 ∷ 40 ∷ ((form sc a).plain ++ 41 ∷ rest)) (omega arith) refl in
      let one = x.plain 41 rest at_close in
      rw (n, one) refl

  memory_again : (w : ℕ) (name : List ℕ) (a : Expr) (rest : List ℕ)
      → w < 17
      → list_all is_name_byte name ≡ true
      → Written sc a
      → memory_at sc (decimal w ++ (codes "(" ++ (name ++ (codes ", " ++ ((form sc a).plain ++ 41 ∷ rest)))))
      ≡ Some (access_of (Some name) a, rest)
  unfolding memory_at after
  memory_again w name a rest small letters x =
      let n = decimal_again w 40 (name ++ 44 ∷ 32 ∷ ((form sc a).plain ++ 41 ∷ rest)) (omega arith) refl in
      let m = name_again name 44 (32 ∷ ((form sc a).plain ++ 41 ∷ rest)) letters refl in
      let one = x.plain 41 rest at_close in
      rw (n, m, one) refl

  -- behind an access, at the end of a line
  pub access_right : (v : Option ℕ) (t : Stmt) (space : Option (List ℕ)) (w : ℕ) (a : Expr) (last : List ℕ)
      → w < 17
      → is_space space ≡ true
      → Written sc a
      → ((rest : List ℕ) → loaded v (access_of space a, last ++ rest) sc ≡ Some (t, rest))
      → RightText sc v t (access_text space w (form sc a) ++ last)
  unfolding right_at division_at right_by line_at plain_line_at loop_head after past_spaces run_of type_at
  access_right v t None w a last small fits x ends = record {
    word = R.Pointed;
    behind = λ rest. decimal (8 * w) ++ (codes " *)(" ++ ((form sc a).plain ++ 41 ∷ (last ++ rest)));
    found = λ rest. let grouped : ((decimal (8 * w) ++ (codes " *)(" ++ ((form sc a).plain ++ codes ")"))) ++ last)
        ++ rest ≡ decimal (8 * w) ++ (codes " *)(" ++ ((form sc a).plain ++ 41 ∷ (last ++ rest))) =
        simp append_assoc in rw grouped refl;
    read = λ rest. let one = pointed_again w a (last ++ rest) small x in rw one (ends rest);
    plainly = λ z. record {
      starts = record { no_space = refl; not_case = refl; not_local = refl };
      not_line = refl;
      not_break = refl;
    };
    long = omega arith;
  }
  access_right v t (Some name) w a last small fits x ends =
      let letters = name_bytes name fits in
      record {
        word = R.Memory;
        behind = λ rest. decimal w ++ (codes "("
            ++ (name ++ (codes ", " ++ ((form sc a).plain ++ 41 ∷ (last ++ rest)))));
        found = λ rest. let grouped : ((decimal w
            ++ (codes "(" ++ (name ++ (codes ", " ++ ((form sc a).plain ++ codes ")"))))) ++ last) ++ rest
            ≡ decimal w ++ (codes "(" ++ (name ++ (codes ", " ++ ((form sc a).plain ++ 41 ∷ (last ++ rest))))) =
            simp append_assoc in rw grouped refl;
        read = λ rest. let one = memory_again w name a (last ++ rest) small letters x in rw one (ends rest);
        plainly = λ z. record {
          starts = record { no_space = refl; not_case = refl; not_local = refl };
          not_line = refl;
          not_break = refl;
        };
        long = omega arith;
      }

  load_end : (v : ℕ) (space : Option (List ℕ)) (a : Expr) (rest : List ℕ)
      → loaded (Some v) (access_of space a, codes ";\n" ++ rest) sc ≡ Some (s.Load v space a, rest)
  unfolding after
  load_end v space a rest = refl

  store_end : (space : Option (List ℕ)) (a e : Expr) (rest : List ℕ)
      → Written sc e
      → loaded None (access_of space a, (codes " = " ++ ((form sc e).plain ++ codes ";\n")) ++ rest) sc
      ≡ Some (s.Store space a e, rest)
  unfolding after
  store_end space a e rest y =
      let grouped : ((form sc e).plain ++ codes ";\n") ++ rest ≡ (form sc e).plain ++ (codes ";\n" ++ rest) =
      append_assoc (form sc e).plain (codes ";\n") rest in
      let one = value_again sc e (form sc e).plain rest y.plain in
      rw (grouped, one) refl

  pub load_right : (v : ℕ) (space : Option (List ℕ)) (w : ℕ) (a : Expr)
      → w < 17
      → is_space space ≡ true
      → Written sc a
      → RightText sc (Some v) (s.Load v space a) (access_text space w (form sc a) ++ codes ";\n")
  load_right v space w a small fits x =
      access_right (Some v) (s.Load v space a) space w a (codes ";\n") small fits x (λ rest. load_end v space a rest)

  pub store_right : (space : Option (List ℕ)) (w : ℕ) (a e : Expr)
      → w < 17
      → is_space space ≡ true
      → Written sc a
      → Written sc e
      → RightText sc None (s.Store space a e)
      (access_text space w (form sc a) ++ (codes " = " ++ ((form sc e).plain ++ codes ";\n")))
  store_right space w a e small fits x y =
      access_right None (s.Store space a e) space w a (codes " = " ++ ((form sc e).plain ++ codes ";\n")) small fits x
      (λ rest. store_end space a e rest y)

  -- ---- calls

  args_end : (v : Option ℕ) (address : ℕ) (ts : List Expr) (rest : List ℕ)
      → AllWritten sc ts
      → with_args sc v address (40 ∷ (separated (plain_texts sc ts) ++ (codes ");\n" ++ rest)))
      ≡ Some (s.Call v address ts, rest)
  unfolding after
  args_end v address ts rest all = let one = args_again sc ts (59 ∷ 10 ∷ rest) all in rw one refl

  call_named : (v : Option ℕ) (address : ℕ) (d : CalleeDecl) (n : List ℕ) (ts : List Expr)
      → are_callees sc.callees ≡ true
      → declared_in sc.callees address ≡ Some d
      → d.name ≡ Declared n
      → list_all is_name_byte n ≡ true
      → AllWritten sc ts
      → RightText sc v (s.Call v address ts)
      ((codes "f_" ++ n) ++ (codes "(" ++ (separated (plain_texts sc ts) ++ codes ");\n")))
  unfolding right_at division_at right_by named_call line_at plain_line_at loop_head after past_spaces run_of type_at
  call_named v address d n ts ok at is letters all =
      let args = separated (plain_texts sc ts) in
      record {
        word = R.Named;
        behind = λ rest. n ++ 40 ∷ (args ++ (codes ");\n" ++ rest));
        found = λ rest. let grouped : (n ++ (codes "(" ++ (args ++ codes ");\n"))) ++ rest
            ≡ n ++ 40 ∷ (args ++ (codes ");\n" ++ rest)) = simp append_assoc in rw grouped refl;
        read = λ rest.
            let one = name_again n 40 (args ++ (codes ");\n" ++ rest)) letters refl in
            let two = callee_found sc.callees address d n ok at is in
            let three = args_end v address ts rest all in
            rw (one, two) three;
        plainly = λ z. record {
          starts = record { no_space = refl; not_case = refl; not_local = refl };
          not_line = refl;
          not_break = refl;
        };
        long = omega arith;
      }

  call_bare : (v : Option ℕ) (address : ℕ) (ts : List Expr) → address < 2 ^ 64 → AllWritten sc ts
      → RightText sc v (s.Call v address ts)
      ((codes "g_" ++ hex address) ++ (codes "(" ++ (separated (plain_texts sc ts) ++ codes ");\n")))
  unfolding right_at division_at right_by bare_call line_at plain_line_at loop_head after past_spaces run_of type_at
  call_bare v address ts low all =
      let args = separated (plain_texts sc ts) in
      record {
        word = R.Bare;
        behind = λ rest. hex address ++ 40 ∷ (args ++ (codes ");\n" ++ rest));
        found = λ rest. let grouped : (hex address ++ (codes "(" ++ (args ++ codes ");\n"))) ++ rest
            ≡ hex address ++ 40 ∷ (args ++ (codes ");\n" ++ rest)) = simp append_assoc in rw grouped refl;
        read = λ rest.
            let one = hex_again address 40 (args ++ (codes ");\n" ++ rest)) (omega arith) refl in
            let two : address % 2 ^ 64 ≡ address = omega arith in
            let three = args_end v address ts rest all in
            rw (one, two) three;
        plainly = λ z. record {
          starts = record { no_space = refl; not_case = refl; not_local = refl };
          not_line = refl;
          not_break = refl;
        };
        long = omega arith;
      }

  call_by_name : (v : Option ℕ) (address : ℕ) (d : CalleeDecl) (name : CName) (ts : List Expr)
      → are_callees sc.callees ≡ true
      → declared_in sc.callees address ≡ Some d
      → d.name ≡ name
      → is_callee_name name ≡ true
      → d.address ≡ address
      → address < 2 ^ 64
      → AllWritten sc ts
      → RightText sc v (s.Call v address ts)
      (callee_name name address ++ (codes "(" ++ (separated (plain_texts sc ts) ++ codes ");\n")))
  call_by_name v address d (Declared n) ts ok at is good same low all =
      call_named v address d n ts ok at is (name_bytes n good) all
  call_by_name v address d Bare ts ok at is good same low all = call_bare v address ts low all

  pub call_right : (v : Option ℕ) (address : ℕ) (d : CalleeDecl) (ts : List Expr)
      → are_callees sc.callees ≡ true
      → declared_in sc.callees address ≡ Some d
      → AllWritten sc ts
      → RightText sc v (s.Call v address ts)
      (name_of (declared_in sc.callees address) ++ (codes "(" ++ (separated (plain_texts sc ts) ++ codes ");\n")))
  call_right v address d ts ok at all =
      let l = callee_long sc.callees address d ok at in
      let good = and_parts (is_long d.address) (is_callee_name d.name && result_fits d.returns d.gives) l.0 in
      let low : d.address < 2 ^ 64 = ltb-true _ _ good.0 in
      let same = l.1 in
      let name = (and_parts (is_callee_name d.name) (result_fits d.returns d.gives) good.1).0 in
      let r = call_by_name v address d d.name ts ok at refl name same (omega arith) all in
      let text : name_of (declared_in sc.callees address) ≡ callee_name d.name address =
      ap name_of at ∙ ap (callee_name d.name) same in
      subst (λ (x : List ℕ). RightText sc v (s.Call v address ts)
      (x ++ (codes "(" ++ (separated (plain_texts sc ts) ++ codes ");\n")))) (sym text) r

  pub indirect_right : (v : Option ℕ) (w : ℕ) (e : Expr) (ts : List Expr) → w < 17 → Written sc e → AllWritten sc ts
      → RightText sc v (s.CallInd v e ts)
      (codes "CALLIND" ++ (decimal w ++ (codes "("
      ++ ((form sc e).plain ++ (further (plain_texts sc ts) ++ codes ");\n")))))
  unfolding right_at division_at right_by indirect_call line_at plain_line_at loop_head after past_spaces run_of type_at
  indirect_right v w e ts small x all =
      let args = further (plain_texts sc ts) in
      let text = λ (rest : List ℕ). (form sc e).plain ++ (args ++ 41 ∷ 59 ∷ 10 ∷ rest) in
      record {
        word = R.Indirect;
        behind = λ rest. decimal w ++ 40 ∷ ((form sc e).plain ++ (args ++ 41 ∷ 59 ∷ 10 ∷ rest));
        found = λ rest. let grouped : (decimal w ++ (codes "(" ++ ((form sc e).plain ++ (args ++ codes ");\n"))))
            ++ rest ≡ decimal w ++ 40 ∷ ((form sc e).plain ++ (args ++ 41 ∷ 59 ∷ 10 ∷ rest)) = simp append_assoc in
            rw grouped refl;
        read = λ rest.
            let one = decimal_again w 40 (text rest) (omega arith) refl in
            let two = before_others sc e ts (59 ∷ 10 ∷ rest) x in
            let three = further_again sc ts (59 ∷ 10 ∷ rest) all in
            rw (one, two, three) refl;
        plainly = λ z. record {
          starts = record { no_space = refl; not_case = refl; not_local = refl };
          not_line = refl;
          not_break = refl;
        };
        long = omega arith;
      }

  -- a number before arguments
  hex_before : (ts : List Expr) (n : ℕ) (rest : List ℕ)
      → n < 2 ^ 64
      → hex_at (hex n ++ (further (plain_texts sc ts) ++ 41 ∷ rest)) ≡ (n, further (plain_texts sc ts) ++ 41 ∷ rest)
  hex_before [] n rest low = hex_again n 41 rest (omega arith) refl
  hex_before (t ∷ ts) n rest low =
      hex_again n 44 (32 ∷ (((form sc t).plain ++ further (plain_texts sc ts)) ++ 41 ∷ rest)) (omega arith) refl

  pub other_right : (v : Option ℕ) (w index : ℕ) (ts : List Expr) → w < 17 → index < 2 ^ 64 → AllWritten sc ts
      → RightText sc v (s.Other v index ts)
      (codes "OTHER" ++ (decimal w ++ (codes "(0x"
      ++ (hex index ++ (further (plain_texts sc ts) ++ codes ");\n")))))
  unfolding right_at division_at right_by other_call line_at plain_line_at loop_head after past_spaces run_of type_at
  other_right v w index ts small low all =
      let args = further (plain_texts sc ts) in
      record {
        word = R.Other;
        behind = λ rest. decimal w ++ 40 ∷ 48 ∷ 120 ∷ (hex index ++ (args ++ 41 ∷ 59 ∷ 10 ∷ rest));
        found = λ rest. let grouped : (decimal w ++ (codes "(0x" ++ (hex index ++ (args ++ codes ");\n")))) ++ rest
            ≡ decimal w ++ 40 ∷ 48 ∷ 120 ∷ (hex index ++ (args ++ 41 ∷ 59 ∷ 10 ∷ rest)) = simp append_assoc in
            rw grouped refl;
        read = λ rest.
            let one = decimal_again w 40 (48 ∷ 120 ∷ (hex index ++ (args ++ 41 ∷ 59 ∷ 10 ∷ rest))) (omega arith) refl in
            let two = hex_before ts index (59 ∷ 10 ∷ rest) low in
            let same : index % 2 ^ 64 ≡ index = omega arith in
            let three = further_again sc ts (59 ∷ 10 ∷ rest) all in
            rw (one, two, same, three) refl;
        plainly = λ z. record {
          starts = record { no_space = refl; not_case = refl; not_local = refl };
          not_line = refl;
          not_break = refl;
        };
        long = omega arith;
      }

  pub extra_right : (v w offset : ℕ)
      → w < 17
      → offset < 2 ^ 64
      → RightText sc (Some v) (s.Extra v offset)
      (codes "EXTRAOUT" ++ (decimal w ++ (codes "(0x" ++ (hex offset ++ codes ");\n"))))
  unfolding right_at division_at right_by extra_at line_at plain_line_at loop_head after past_spaces run_of type_at
  extra_right v w offset small low = record {
    word = R.Extra;
    behind = λ rest. decimal w ++ 40 ∷ 48 ∷ 120 ∷ (hex offset ++ 41 ∷ 59 ∷ 10 ∷ rest);
    found = λ rest. let grouped : (decimal w ++ (codes "(0x" ++ (hex offset ++ codes ");\n"))) ++ rest
        ≡ decimal w ++ 40 ∷ 48 ∷ 120 ∷ (hex offset ++ 41 ∷ 59 ∷ 10 ∷ rest) = simp append_assoc in rw grouped refl;
    read = λ rest.
        let one = decimal_again w 40 (48 ∷ 120 ∷ (hex offset ++ 41 ∷ 59 ∷ 10 ∷ rest)) (omega arith) refl in
        let two = hex_again offset 41 (59 ∷ 10 ∷ rest) (omega arith) refl in
        let same : offset % 2 ^ 64 ≡ offset = omega arith in
        rw (one, two, same) refl;
    plainly = λ z. record {
      starts = record { no_space = refl; not_case = refl; not_local = refl };
      not_line = refl;
      not_break = refl;
    };
    long = omega arith;
  }

  division_read : (v : ℕ) (op : StatementDivision) (a b : Expr) (rest : List ℕ) → Written sc a → Written sc b
      → divide_at sc (Some v) op ((form sc a).plain ++ 44 ∷ 32 ∷ ((form sc b).plain ++ 41 ∷ 59 ∷ 10 ∷ rest))
      ≡ Some (s.Divide v op a b, rest)
  unfolding divide_at after
  division_read v op a b rest x y =
      let one = x.plain 44 (32 ∷ ((form sc b).plain ++ 41 ∷ 59 ∷ 10 ∷ rest)) at_comma in
      let two = y.plain 41 (59 ∷ 10 ∷ rest) at_close in
      rw (one, two) refl

  pub divide_right : (v : ℕ) (op : StatementDivision) (a b : Expr)
      → Written sc a
      → Written sc b
      → RightText sc (Some v) (s.Divide v op a b)
      (call_of_two (division_word op) (form sc a) (form sc b) ++ codes ";\n")
  unfolding right_by
  divide_right v op a b x y =
      let i = is_division op in
      let word = division_word op in
      let text = 40 ∷ ((form sc a).plain ++ (codes ", " ++ ((form sc b).plain ++ 41 ∷ []))) in
      let mid = λ (rest : List ℕ). (form sc a).plain ++ 44 ∷ 32 ∷ ((form sc b).plain ++ 41 ∷ 59 ∷ 10 ∷ rest) in
      record {
        word = R.Divide op;
        behind = λ rest. (form sc a).plain ++ 44 ∷ 32 ∷ ((form sc b).plain ++ 41 ∷ 59 ∷ 10 ∷ rest);
        found = λ rest. let grouped : ((word ++ text) ++ codes ";\n") ++ rest
            ≡ word ++ 40 ∷ ((form sc a).plain ++ 44 ∷ 32 ∷ ((form sc b).plain ++ 41 ∷ 59 ∷ 10 ∷ rest)) =
            simp append_assoc in rw grouped (i.found (mid rest));
        read = λ rest. division_read v op a b rest x y;
        plainly = λ z. let grouped : ((word ++ text) ++ codes ";\n") ++ z ≡ word ++ (text ++ (codes ";\n" ++ z)) =
            simp append_assoc in rw grouped (i.plainly (text ++ (codes ";\n" ++ z)));
        long = let l = i.long in omega (arith, length-append (word ++ text) (codes ";\n"), length-append word text);
      }
