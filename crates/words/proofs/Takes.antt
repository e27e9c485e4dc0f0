-- Where a parse of the command fails by no kind of error, the command takes the words: each step of a parse that doesn't
-- pass has a kind.
use Rattle.std.proofs.Common.{◌≡◌, ◌+◌, ◌&&◌, ◌||◌, ◌==◌, ℕ, Bool, true, false, not, zero, suc, refl, sym, ap, ap₂, subst, arith, List, [], ◌∷◌, length, drop, Option, Some, None, is_some, cond, codes}
use Rattle.std.specs.Prelude.{nat_le, nat_lt, encode_utf8, slice_get, if◌then◌else◌}
use Rattle.std.specs.List.{list_all}
use Rattle.std.specs.Option.{option_map_or}
use Rattle.std.specs.Str.{bytes_eq, chars}
use Rattle.std.proofs.lemmas.Bool.Decides.{nat_tests}
use Rattle.clap.specs.Lexer.{long_of, short_of}
use Rattle.clap.specs.Facts.{parser_of_value, unwrap_or_range}
use Rattle.clap.specs.Kinds.{Kinds, or_else, range_kinds, request_kinds, value_kinds, values_kinds}
use Rattle.clap.specs.Faults.{action_fault, built_fault, bundle_fault, bundle_step_fault, count_fault, fault_of, flag_word_fault, flags_fault, level_fault, long_fault, option_fault, other_fault, positional_fault, react_fault, repeat_fault, set_fault, settle_fault, short_fault, step_fault, stray_fault, turn_fault, use_fault, values_fault, walk_fault, word_fault}
use Rattle.clap.specs.Takes.{action_passes, built_takes, bundle_passes, bundle_step_passes, count_passes, default_passes, entered_passes, flag_word_passes, flags_pass, is_valid, level_passes, long_passes, option_passes, other_passes, positional_passes, react_passes, set_passes, settle_passes, short_passes, step_passes, takes, turn_passes, use_passes, value_passes, values_pass, walk_passes, word_passes}
use Rattle.clap.specs.Walk.{Held, Names, Row, Rule, Step, Text, Waiting, Walk, action_of, arg_by_id, arg_by_index, arg_by_long, arg_by_short, attached_value, finished, has_row, is_pending, most_values, next, nothing_held, reacted, settled, subcommand, subcommand_met, takes_several, takes_values, trailing, value, values_or_missing, walk, walk_from, walked, word_met}
use Rattle.clap.specs.Simple.{Shape, argument_words, built, entered, names_of}
use Rattle.clap.specs.declared.builder.action.ArgAction.{ArgAction}
use Rattle.clap.specs.declared.builder.action.ArgAction.TheVariants as action
use Rattle.clap.specs.declared.error.kind.ErrorKind.{ErrorKind}
use Rattle.clap.specs.declared.error.kind.ErrorKind.TheVariants as kind
use Rattle.words.specs.Request.{command}

-- ---- kinds and tests

not_nil : {A : Type 0} (x : A) (xs : List A) → x ∷ xs ≡ [] → ⊥
not_nil x xs e = let one = ap length e in omega (arith, one)

or_left : (a b : Kinds) → or_else a b ≡ [] → a ≡ []
or_left [] b e = refl
or_left (k ∷ ks) b e = e

or_right : (a b : Kinds) → or_else a b ≡ [] → b ≡ []
or_right [] b e = e
or_right (k ∷ ks) b e = absurd (not_nil k ks e)

both : (a b : Bool) → a ≡ true → b ≡ true → (a && b) ≡ true
both true b h g = g
both false b h g = h

one_or : (a b : Bool) → b ≡ true → (a || b) ≡ true
one_or true b h = refl
one_or false b h = h

-- a test that has a kind where it fails
by_test : (t : Bool) (k : ErrorKind) → (if t then [] else k ∷ []) ≡ [] → t ≡ true
by_test true k e = refl
by_test false k e = absurd (not_nil k [] e)

-- of what may be missing
of_option : {A : Type 0} (o : Option A) (fault : A → Kinds) (passes : A → Bool)
    → ((x : A) → fault x ≡ [] → passes x ≡ true)
    → option_map_or fault o [] ≡ []
    → option_map_or passes o true ≡ true
of_option None fault passes each e = refl
of_option (Some x) fault passes each e = each x e

-- ---- one use of an argument

values_pass_so : (a : Rule) (vs : List Text) → values_fault a vs ≡ [] → values_pass a vs ≡ true
values_pass_so a [] e = refl
values_pass_so a (v ∷ vs) e =
    both (value_passes a v) (values_pass a vs)
    (by_test (value_passes a v) _ (or_left (value_kinds a.ignore_case (parser_of_value a.parser) v) (values_fault a vs) e))
    (values_pass_so a vs (or_right (value_kinds a.ignore_case (parser_of_value a.parser) v) (values_fault a vs) e))

count_passes_so : (a : Rule) (vs : List Text) (rows : List Row) → count_fault a vs rows ≡ [] → count_passes a vs rows ≡ true
count_passes_so a [] rows e = by_test _ _ e
count_passes_so a (v ∷ vs) rows e = values_pass_so a (v ∷ vs) e

set_passes_so : (again : Bool) (a : Rule) (vs : List Text) (rows : List Row)
    → set_fault again a vs rows ≡ []
    → set_passes again a vs rows ≡ true
set_passes_so again a vs rows e =
    both (not (has_row a.id rows) || again) (values_pass a vs)
    (first (has_row a.id rows) again (or_left (repeat_fault again a.id rows) (values_fault a vs) e))
    (values_pass_so a vs (or_right (repeat_fault again a.id rows) (values_fault a vs) e))
  where
    first : (t u : Bool) → (if t && not u then kind.ArgumentConflict ∷ [] else []) ≡ [] → (not t || u) ≡ true
    first true true e = refl
    first true false e = absurd (not_nil kind.ArgumentConflict [] e)
    first false u e = refl

action_passes_so : (x : ArgAction) (again : Bool) (a : Rule) (vs : List Text) (rows : List Row)
    → action_fault x again a vs rows ≡ []
    → action_passes x again a vs rows ≡ true
action_passes_so action.Set again a vs rows e = set_passes_so again a vs rows e
action_passes_so action.SetTrue again a vs rows e = set_passes_so again a vs rows e
action_passes_so action.SetFalse again a vs rows e = set_passes_so again a vs rows e
action_passes_so action.Append again a vs rows e = values_pass_so a vs e
action_passes_so action.Count again a vs rows e = count_passes_so a vs rows e
action_passes_so action.Help again a vs rows e = absurd (not_nil kind.DisplayHelp [] e)
action_passes_so action.HelpShort again a vs rows e = absurd (not_nil kind.DisplayHelp [] e)
action_passes_so action.HelpLong again a vs rows e = absurd (not_nil kind.DisplayHelp [] e)
action_passes_so action.Version again a vs rows e = absurd (not_nil kind.DisplayVersion [] e)

-- as many values as are wanted
range_passes : (least most n : ℕ)
    → range_kinds least most n ≡ []
    → (nat_le least n ≡ true) × (nat_le n most ≡ true)
range_passes least most n e = by_first (nat_lt 0 least && n == 0) e
  where
    within : (few many : Bool) → few ≡ nat_lt n least → many ≡ nat_lt most n
        → (if few then kind.TooFewValues ∷ [] else (if many then kind.TooManyValues ∷ [] else [])) ≡ []
        → (nat_le least n ≡ true) × (nat_le n most ≡ true)
    within true many f m e = absurd (not_nil kind.TooFewValues [] e)
    within false true f m e = absurd (not_nil kind.TooManyValues [] e)
    within false false f m e = (grind (arith, nat_tests, f), grind (arith, nat_tests, m))

    exactly : (t : Bool) → t ≡ (least == n) → (least == most) ≡ true
        → (if t then [] else kind.WrongNumberOfValues ∷ []) ≡ []
        → (nat_le least n ≡ true) × (nat_le n most ≡ true)
    exactly true t same e = (grind (arith, nat_tests, t, same), grind (arith, nat_tests, t, same))
    exactly false t same e = absurd (not_nil kind.WrongNumberOfValues [] e)

    by_same : (t : Bool) → (least == most) ≡ t
        → (if t then (if least == n then [] else kind.WrongNumberOfValues ∷ [])
        else (if nat_lt n least then kind.TooFewValues ∷ []
        else (if nat_lt most n then kind.TooManyValues ∷ [] else []))) ≡ []
        → (nat_le least n ≡ true) × (nat_le n most ≡ true)
    by_same true same e = exactly (least == n) refl same e
    by_same false same e = within (nat_lt n least) (nat_lt most n) refl refl e

    by_first : (t : Bool)
        → (if t then kind.InvalidValue ∷ [] else (if least == most then (if least == n then [] else kind.WrongNumberOfValues ∷ [])
        else (if nat_lt n least then kind.TooFewValues ∷ []
        else (if nat_lt most n then kind.TooManyValues ∷ [] else [])))) ≡ []
        → (nat_le least n ≡ true) × (nat_le n most ≡ true)
    by_first true e = absurd (not_nil kind.InvalidValue [] e)
    by_first false e = by_same (least == most) refl e

module _ (again : Bool) where
  use_passes_so : (a : Rule) (vs : List Text) (rows : List Row)
      → use_fault again a vs rows ≡ []
      → use_passes again a vs rows ≡ true
  use_passes_so a vs rows e =
      let kinds = range_kinds (unwrap_or_range a.range).start_inclusive (most_values a) (length vs) in
      let done = action_fault (action_of a) again a (values_or_missing a vs) rows in
      let range = range_passes (unwrap_or_range a.range).start_inclusive (most_values a) (length vs) (or_left kinds done e) in
      both _ _ range.0
      (both _ _ range.1 (action_passes_so (action_of a) again a (values_or_missing a vs) rows (or_right kinds done e)))

  -- ---- the walk

  module _ (c : List Rule) where
    settle_passes_so : (h : Held) → settle_fault c again h ≡ [] → settle_passes c again h ≡ true
    settle_passes_so h e = of_option h.pending _ _
        (λ p. of_option (arg_by_id c p.0) _ _ (λ a. use_passes_so a p.1 h.rows)) e

    react_passes_so : (a : Rule) (vs : List Text) (h : Held)
        → react_fault c again a vs h ≡ []
        → react_passes c again a vs h ≡ true
    react_passes_so a vs h e =
        let used = use_fault again a vs (settled c h).rows in
        both _ _ (settle_passes_so h (or_left (settle_fault c again h) used e))
        (use_passes_so a vs (settled c h).rows (or_right (settle_fault c again h) used e))

    option_passes_so : (a : Rule) (v : Option Text) (h : Held)
        → option_fault c again a v h ≡ []
        → option_passes c again a v h ≡ true
    option_passes_so a (Some v) h e = react_passes_so a (v ∷ []) h e
    option_passes_so a None h e = settle_passes_so h e

    long_passes_so : (found : Option Rule) (v : Option Text) (h : Held)
        → long_fault c again found v h ≡ []
        → long_passes c again found v h ≡ true
    long_passes_so None v h e = absurd (not_nil kind.UnknownArgument [] e)
    long_passes_so (Some a) v h e = by_kind (takes_values a) e
      where
        by_value : (t : Bool)
            → (if t then kind.TooManyValues ∷ [] else react_fault c again a [] h) ≡ []
            → (not t && react_passes c again a [] h) ≡ true
        by_value true e = absurd (not_nil kind.TooManyValues [] e)
        by_value false e = react_passes_so a [] h e

        by_kind : (t : Bool)
            → (if t then option_fault c again a v h
            else (if is_some v then kind.TooManyValues ∷ [] else react_fault c again a [] h)) ≡ []
            → (if t then option_passes c again a v h else (not (is_some v) && react_passes c again a [] h)) ≡ true
        by_kind true e = option_passes_so a v h e
        by_kind false e = by_value (is_some v) e

    short_passes_so : (found : Option Rule) (rest : Text) (h : Held) (fault : Held → Kinds) (passes : Held → Bool)
        → ((x : Held) → fault x ≡ [] → passes x ≡ true)
        → short_fault c again found rest h fault ≡ []
        → short_passes c again found rest h passes ≡ true
    short_passes_so None rest h fault passes each e = absurd (not_nil kind.UnknownArgument [] e)
    short_passes_so (Some a) rest h fault passes each e = by_kind (takes_values a) e
      where
        by_kind : (t : Bool)
            → (if t then option_fault c again a (attached_value rest) h
            else or_else (react_fault c again a [] h) (fault (reacted c a [] h))) ≡ []
            → (if t then option_passes c again a (attached_value rest) h
            else (react_passes c again a [] h && passes (reacted c a [] h))) ≡ true
        by_kind true e = option_passes_so a (attached_value rest) h e
        by_kind false e =
            both _ _ (react_passes_so a [] h (or_left (react_fault c again a [] h) (fault (reacted c a [] h)) e))
            (each (reacted c a [] h) (or_right (react_fault c again a [] h) (fault (reacted c a [] h)) e))

    bundle_step_so : (x : Option ℕ) (flags : Text) (skip : ℕ) (h : Held)
        (fault : Text → ℕ → Held → Kinds) (passes : Text → ℕ → Held → Bool)
        → ((t : Text) (n : ℕ) (k : Held) → fault t n k ≡ [] → passes t n k ≡ true)
        → bundle_step_fault c again x flags skip h fault ≡ []
        → bundle_step_passes c again x flags skip h passes ≡ true
    bundle_step_so None flags skip h fault passes each e = refl
    bundle_step_so (Some x) flags zero h fault passes each e =
        let rest = drop (length (encode_utf8 x)) flags in
        short_passes_so (arg_by_short c x) rest h (fault rest 0) (passes rest 0) (each rest 0) e
    bundle_step_so (Some x) flags (suc skip) h fault passes each e =
        each (drop (length (encode_utf8 x)) flags) skip h e

    flags_pass_so : (k : ℕ) (flags : Text) (skip : ℕ) (h : Held)
        → flags_fault c again k flags skip h ≡ []
        → flags_pass c again k flags skip h ≡ true
    unfolding flags_fault flags_pass
    flags_pass_so zero flags skip h e = refl
    flags_pass_so (suc k) flags skip h e =
        bundle_step_so (slice_get (chars flags) 0) flags skip h (flags_fault c again k) (flags_pass c again k)
        (flags_pass_so k) e

    bundle_passes_so : (flags : Text) (h : Held)
        → bundle_fault c again flags h ≡ []
        → bundle_passes c again flags h ≡ true
    bundle_passes_so flags h e = flags_pass_so (length flags) flags h.skip (record h { skip = 0 }) e

    flag_word_so : (parts : Option (Text × Option Text)) (word : Text) (h : Held)
        → flag_word_fault c again parts word h ≡ []
        → flag_word_passes c again parts word h ≡ true
    flag_word_so (Some p) word h e = long_passes_so (arg_by_long c p.0) p.1 h e
    flag_word_so None word h e = of_option (short_of word) _ _ (λ flags. bundle_passes_so flags h) e

    positional_so : (a : Rule) (h : Held)
        → positional_fault c again a h ≡ []
        → positional_passes c again a h ≡ true
    positional_so a h e = by_pending (is_pending a h.pending && takes_several a) e
      where
        by_pending : (t : Bool)
            → (if t then [] else settle_fault c again h) ≡ []
            → (t || settle_passes c again h) ≡ true
        by_pending true e = refl
        by_pending false e = settle_passes_so h e

module _ (s : Shape) where
  other_so : (name : Option Text) (word : Text) (h : Held)
      → other_fault s name word h ≡ []
      → other_passes s name word h ≡ true
  other_so (Some name) word h e = by_name (bytes_eq name (codes "help")) s.disable_help_subcommand e
    where
      by_name : (t u : Bool)
          → (if t && not u then kind.DisplayHelp ∷ kind.InvalidSubcommand ∷ [] else []) ≡ []
          → (not t || u) ≡ true
      by_name true true e = refl
      by_name true false e = absurd (not_nil kind.DisplayHelp (kind.InvalidSubcommand ∷ []) e)
      by_name false u e = refl
  other_so None word h e = by_dashes (bytes_eq word (45 ∷ 45 ∷ [])) e
    where
      by_dashes : (t : Bool)
          → (if t then [] else flag_word_fault s.rules s.args_override_self (long_of word) word h) ≡ []
          → (t || flag_word_passes s.rules s.args_override_self (long_of word) word h) ≡ true
      by_dashes true e = refl
      by_dashes false e = flag_word_so s.args_override_self s.rules (long_of word) word h e

  word_so : (names : Names) (is_trailing : Bool) (waiting : Waiting) (word : Text) (h : Held)
      → word_fault s names is_trailing waiting word h ≡ []
      → word_passes s names is_trailing waiting word h ≡ true
  word_so names true waiting word h e = refl
  word_so names false waiting word h e = other_so (subcommand_met names waiting word) word h e

  step_so : (position : ℕ) (h : Held) (x : Step)
      → step_fault s position h x ≡ []
      → step_passes s position h x ≡ true
  step_so position h value e = by_rule (arg_by_index s.rules position) e
    where
      stray : (t : Bool)
          → (if t then kind.UnknownArgument ∷ [] else kind.UnknownArgument ∷ kind.InvalidSubcommand ∷ []) ≡ []
          → ⊥
      stray true e = not_nil kind.UnknownArgument [] e
      stray false e = not_nil kind.UnknownArgument (kind.InvalidSubcommand ∷ []) e

      by_rule : (o : Option Rule)
          → option_map_or (λ a. positional_fault s.rules s.args_override_self a h) o (stray_fault s) ≡ []
          → option_map_or (λ a. positional_passes s.rules s.args_override_self a h) o false ≡ true
      by_rule None e = absurd (stray s.is_leaf e)
      by_rule (Some a) e = positional_so s.args_override_self s.rules a h e
  step_so position h (next waiting) e = refl
  step_so position h (trailing n) e = refl
  step_so position h (subcommand name) e = refl

  turn_so : (names : Names) (w : Walk) (word : Text) → turn_fault s names w word ≡ [] → turn_passes s names w word ≡ true
  turn_so names w word e = by_stop (is_some w.stopped) e
    where
      met : Held × Step
      met = word_met s.rules names w.is_trailing w.waiting w.position word w.held

      by_stop : (t : Bool)
          → (if t then [] else or_else (word_fault s names w.is_trailing w.waiting word w.held)
          (step_fault s w.position met.0 met.1)) ≡ []
          → (t || (word_passes s names w.is_trailing w.waiting word w.held
          && step_passes s w.position met.0 met.1)) ≡ true
      by_stop true e = refl
      by_stop false e =
          let first = word_fault s names w.is_trailing w.waiting word w.held in
          let second = step_fault s w.position met.0 met.1 in
          both _ _ (word_so names w.is_trailing w.waiting word w.held (or_left first second e))
          (step_so w.position met.0 met.1 (or_right first second e))

  walk_so : (names : Names) (w : Walk) (words : List Text) → walk_fault s names w words ≡ [] → walk_passes s names w words ≡ true
  unfolding walk_fault walk_passes
  walk_so names w [] e = refl
  walk_so names w (word ∷ words) e =
      let first = turn_fault s names w word in
      let second = walk_fault s names (walked s.rules names w word) words in
      both _ _ (turn_so names w word (or_left first second e))
      (walk_so names (walked s.rules names w word) words (or_right first second e))

-- ---- the command

-- it has no subcommand to enter
no_entered : (stop : Option (Text × List Text)) → entered_passes (built command) stop ≡ true
no_entered None = refl
no_entered (Some p) = refl

-- The command takes the words at which it fails by no kind.
pub takes_so : (words : List Text) → fault_of command words ≡ [] → takes command words ≡ true
takes_so words e =
    let s : Shape = (built command).top in
    let end : Held = (walk s.rules [] nothing_held words).held in
    let walks : Kinds = walk_fault s [] (walk_from nothing_held) words in
    let settles : Kinds = settle_fault s.rules s.args_override_self end in
    let last : or_else settles _ ≡ [] = or_right _ _ (or_right walks _ e) in
    both _ _ (no_entered (walk s.rules [] nothing_held words).stopped)
    (both _ _ (walk_so s [] (walk_from nothing_held) words (or_left walks _ e))
    (both _ _ (settle_passes_so s.args_override_self s.rules end (or_left settles _ last)) refl))
