-- What a run begins with.
use Rattle.std.proofs.Common.{◌≡◌, ℕ, zero, suc, ◌+◌, ◌-◌, ◌*◌, ◌%◌, ◌<◌, Bool, true, false, List, [], ◌∷◌, length, get_or, drop, take, map, Option, Some, None, refl, sym, ap, ◌∙◌, slice_get, add-one}
use Rattle.std.specs.Prelude.{if◌then◌else◌, ◌==◌}
use Rattle.std.proofs.Math.Dec.{eqb-suc-suc, eqb-suc-zero, eqb-zero-suc}
use Rattle.std.proofs.Math.Nat.{mod-add-mod}
use Rattle.std.proofs.Math.Path.{fun_ext}
use Rattle.std.proofs.lemmas.Nat.{mul-mod_first}
use Rattle.bits_core.specs.Bytes.{number}
use Rattle.pcode_model.specs.declared.listing.Listing.{Listing}
use Rattle.pcode_model.specs.declared.storage.ParamStorage.{ParamStorage}
use Rattle.pcode_model.specs.declared.storage.ParamStorage.TheVariants.{Register, Unique, Stack}
use Rattle.pcode_model.specs.Memory.{Bytes, or_else}
use Rattle.pcode_model.specs.Spaces.{put}
use Rattle.pcode_model.specs.World as W
use Rattle.cmeaning.specs.declared.tree.CFunction.{CFunction}
use Rattle.cmeaning.specs.declared.tree.Param.{Param}
use Rattle.cmeaning.specs.Do.{variable_width, widths_in}
use Rattle.cmeaning.specs.Step.{CState, at, first_word, start_c, word_at}
use Rattle.run_world.specs.declared.entry.Entry.{Entry}
use Rattle.run_world.specs.declared.trace.Event.{Event}
use Rattle.run_world.specs.Log.{world_of}
use Rattle.run_world.specs.Meaning.{answer_of, entry_of, first_bytes, with_offsets}
use Rattle.run_world.proofs.Steps.{number_above}
use Rattle.cmeaning.specs.Fits.{all_true}
use Rattle.c_run.proofs.Spaces.{both}

-- one more byte below
pub reduced_more : (bs : List ℕ) (i size n m b : ℕ)
    → i < length bs
    → n ≡ number (drop (i + 1) bs) % size
    → b ≡ get_or bs i 0
    → m ≡ (n * 256 + b) % size
    → m ≡ number (drop i bs) % size
reduced_more bs i size n m b within before byte is =
    let high = number (drop (i + 1) bs) in
    let whole : number (drop i bs) ≡ high * 256 + b = number_above bs i within ∙ ap (λ z. high * 256 + z) (sym byte) in
    is ∙ ap (λ z. (z * 256 + b) % size) before
    ∙ sym (mod-add-mod (high % size * 256) size b)
    ∙ ap (λ z. (z + b) % size) (mul-mod_first high 256 size)
    ∙ mod-add-mod (high * 256) size b
    ∙ ap (λ z. z % size) (sym whole)

-- the place of a byte of the stack
pub own_at : (word size offset stack at : ℕ)
    → stack ≡ word % size
    → at ≡ (stack + offset) % size
    → at ≡ (word + offset) % size
own_at word size offset stack at is found = found ∙ ap (λ z. (z + offset) % size) is ∙ mod-add-mod word size offset

-- one more item
pub take_more : {A : Type 0} (xs : List A) (i : ℕ) (x : A)
    → slice_get xs i ≡ Some x
    → (v : ℕ)
    → slice_get (take (suc i) xs) v ≡ (if v == i then Some x else slice_get (take i xs) v)
take_more [] i x is v = absurd cc
take_more (y ∷ xs) zero x is zero = is
take_more (y ∷ xs) zero x is (suc v) = rw (eqb-suc-zero v) refl
take_more (y ∷ xs) (suc i) x is zero = rw (eqb-zero-suc i) refl
take_more (y ∷ xs) (suc i) x is (suc v) = rw (eqb-suc-suc v i) (take_more xs i x is v)

first_if : (l : Listing) (e : W.Entry) (b : Bool) (p : Param) (o : Option Param) (n : ℕ)
    → n ≡ word_at l e p.width.bytes p.storage
    → (if b then Some n else first_word l e o) ≡ first_word l e (if b then Some p else o)
first_if l e true p o n is = ap Some is
first_if l e false p o n is = refl

pub params_turn : (l : Listing) (e : W.Entry) (ps : List Param) (i : ℕ) (p : Param) (n : ℕ)
    (env next : ℕ → Option ℕ)
    → slice_get ps i ≡ Some p
    → n ≡ word_at l e p.width.bytes p.storage
    → env ≡ (λ v. first_word l e (slice_get (take i ps) v))
    → next ≡ put env i (Some n)
    → next ≡ (λ v. first_word l e (slice_get (take (i + 1) ps) v))
params_turn l e ps i p n env next found word before is =
    is ∙ ap (λ (f : ℕ → Option ℕ). put f i (Some n)) before
    ∙ fun_ext (λ v.
    first_if l e (v == i) p (slice_get (take i ps) v) n word
    ∙ ap (first_word l e) (sym (take_more ps i p found v) ∙ ap (λ k. slice_get (take k ps) v) (sym (add-one i))))

pub all_true_at : {A : Type 0} (test : A → Bool) (xs : List A) (i : ℕ) (x : A)
    → slice_get xs i ≡ Some x
    → all_true (map test xs) ≡ true
    → test x ≡ true
all_true_at test [] i x is all = absurd cc
all_true_at test (y ∷ xs) zero x is all =
    let same : y ≡ x = cc in
    ap test (sym same) ∙ (both (test y) (all_true (map test xs)) all).0
all_true_at test (y ∷ xs) (suc i) x is all = all_true_at test xs i x is (both (test y) (all_true (map test xs)) all).1

pub param_width : (f : CFunction) (i : ℕ) (p : Param) → slice_get f.params i ≡ Some p → widths_in f i ≡ p.width.bytes
param_width f i p is = ap (λ o. variable_width o (slice_get f.locals (i - length f.params))) is

-- the answers make no difference to a parameter's word
same_word : (l : Listing) (bytes : Bytes) (hidden : ℕ → Option ℕ) (xs ys : List W.Answer) (k : ℕ) (s : ParamStorage)
    → word_at l (record { bytes = bytes; hidden = hidden; answers = xs }) k s
    ≡ word_at l (record { bytes = bytes; hidden = hidden; answers = ys }) k s
same_word l bytes hidden xs ys k (Register offset) = refl
same_word l bytes hidden xs ys k (Unique offset) = refl
same_word l bytes hidden xs ys k (Stack offset) = refl

same_first : (l : Listing) (bytes : Bytes) (hidden : ℕ → Option ℕ) (xs ys : List W.Answer) (o : Option Param)
    → first_word l (record { bytes = bytes; hidden = hidden; answers = xs }) o
    ≡ first_word l (record { bytes = bytes; hidden = hidden; answers = ys }) o
same_first l bytes hidden xs ys None = refl
same_first l bytes hidden xs ys (Some p) = ap Some (same_word l bytes hidden xs ys p.width.bytes p.storage)

-- the words of parameters by their numbers
abbrev pub words_at : Listing → Bytes → (ℕ → Option ℕ) → List W.Answer → List Param → ℕ → Option ℕ
words_at l bytes hidden xs ps v =
    first_word l (record { bytes = bytes; hidden = hidden; answers = xs }) (slice_get ps v)

same_words : (l : Listing) (bytes : Bytes) (hidden : ℕ → Option ℕ) (xs ys : List W.Answer) (ps : List Param)
    → words_at l bytes hidden xs ps ≡ words_at l bytes hidden ys ps
same_words l bytes hidden xs ys ps = fun_ext (λ v. same_first l bytes hidden xs ys (slice_get ps v))

-- the state is the definition's
pub start_is : (l : Listing) (f : CFunction) (e : Entry) (env : ℕ → Option ℕ) (left : ℕ → ℕ) (bytes : Bytes)
    (hidden : ℕ → Option ℕ) (events : List Event)
    → env ≡ words_at l bytes hidden [] f.params
    → left ≡ (λ o. 0)
    → bytes ≡ first_bytes l e.state
    → hidden ≡ with_offsets e.hidden (λ o. None)
    → events ≡ []
    → at 0 (record {
      env = env;
      left = left;
      world = world_of bytes e.answers (record { taken = 0; events = events; end = None });
    })
    ≡ start_c l f (entry_of l e)
start_is l f e env left bytes hidden events env_is left_is bytes_are hidden_are none =
    let answers = map answer_of e.answers in
    let with_env : (ℕ → Option ℕ) → CState =
    λ z. at 0 (record {
      env = z;
      left = left;
      world = world_of bytes e.answers (record { taken = 0; events = events; end = None });
    }) in
    let with_left : (ℕ → ℕ) → CState =
    λ z. at 0 (record {
      env = words_at l bytes hidden answers f.params;
      left = z;
      world = world_of bytes e.answers (record { taken = 0; events = events; end = None });
    }) in
    let with_events : List Event → CState =
    λ z. at 0 (record {
      env = words_at l bytes hidden answers f.params;
      left = λ o. 0;
      world = world_of bytes e.answers (record { taken = 0; events = z; end = None });
    }) in
    let with_hidden : (ℕ → Option ℕ) → CState =
    λ z. at 0 (record {
      env = words_at l bytes z answers f.params;
      left = λ o. 0;
      world = record { memory = bytes; answers = answers; events = []; over = None };
    }) in
    let with_bytes : Bytes → CState =
    λ z. at 0 (record {
      env = words_at l z (with_offsets e.hidden (λ o. None)) answers f.params;
      left = λ o. 0;
      world = record { memory = z; answers = answers; events = []; over = None };
    }) in
    ap with_env (env_is ∙ same_words l bytes hidden [] answers f.params)
    ∙ ap with_left left_is
    ∙ ap with_events none
    ∙ ap with_hidden hidden_are
    ∙ ap with_bytes bytes_are

pub left_none : (g : ℕ → Option ℕ) → g ≡ (λ o. None) → ◌≡◌ {A = ℕ → ℕ} (λ o. or_else (g o) 0) (λ o. 0)
left_none g is = let f : (ℕ → Option ℕ) → ℕ → ℕ = λ h o. or_else (h o) 0 in ap f is

-- ---- bytes of the stack

pub own_hidden : (hidden : ℕ → Option ℕ) (bytes : ℕ → ℕ → ℕ) (ram word size whole offset stack at b : ℕ)
    (o : Option ℕ)
    → whole ≡ size
    → stack ≡ word % size
    → at ≡ (stack + offset) % whole
    → o ≡ hidden at
    → o ≡ Some b
    → b ≡ or_else (hidden ((word + offset) % size)) (bytes ram ((word + offset) % size))
own_hidden hidden bytes ram word size whole offset stack at b o whole_is stack_is at_is got some =
    let here : at ≡ (word + offset) % size =
    own_at word size offset stack at stack_is (at_is ∙ ap (λ z. (stack + offset) % z) whole_is) in
    let there : hidden ((word + offset) % size) ≡ Some b = sym (ap hidden here) ∙ sym got ∙ some in
    sym (ap (λ z. or_else z (bytes ram ((word + offset) % size))) there)

pub own_shown : (hidden : ℕ → Option ℕ) (bytes : ℕ → ℕ → ℕ) (ram space word size whole offset stack at b : ℕ)
    (o : Option ℕ)
    → whole ≡ size
    → stack ≡ word % size
    → at ≡ (stack + offset) % whole
    → o ≡ hidden at
    → o ≡ None
    → space ≡ ram
    → b ≡ bytes space at
    → b ≡ or_else (hidden ((word + offset) % size)) (bytes ram ((word + offset) % size))
own_shown hidden bytes ram space word size whole offset stack at b o whole_is stack_is at_is got none space_is read =
    let here : at ≡ (word + offset) % size =
    own_at word size offset stack at stack_is (at_is ∙ ap (λ z. (stack + offset) % z) whole_is) in
    let there : hidden ((word + offset) % size) ≡ None = sym (ap hidden here) ∙ sym got ∙ none in
    read
    ∙ ap (λ z. bytes z at) space_is
    ∙ ap (bytes ram) here
    ∙ sym (ap (λ z. or_else z (bytes ram ((word + offset) % size))) there)
