-- The two memories, and what each act does to both.
use Rattle.std.proofs.Common.{◌≡◌, ◌≢◌, ℕ, zero, suc, ◌<◌, Bool, true, false, List, [], ◌∷◌, length, Option, Some, None, refl, sym, ap, ◌∙◌, ◌⊎◌, inl, inr, ⊎_elim, arith}
use Rattle.std.specs.Prelude.{◌==◌, ◌&&◌, cond, Result, Ok, Err}
use Rattle.std.proofs.lemmas.Bool.Decides.{nat_tests}
use Rattle.std.proofs.lemmas.Bool.{cases_eq}
use Rattle.machine.specs.Trace.{End, Outside, ReadOnlyWrite}
use Rattle.pcode_model.specs.Spaces.{size_of, first_ram, next, bytes_at, or, put, put_in, each_at, is_fixed}
use Rattle.pcode_model.specs.Memory.{ByteWrite, HiddenWrite, Layout, offset_from, is_framed, any_fixed, any_framed, any_hidden, any_spoiled, poke, unless, Whole, or_else, found, unhidden, poke_whole, tuck, conceal, whole, Apart, poke_apart, keep_own, apart}
use Rattle.pcode_model.specs.World.{and_then, write_all, hide_all}
use Rattle.pcode_model.specs.Step.{read_at}
use Rattle.pcode_laws.proofs.Puts.{put_at, put_else, put_in_else, next_below}
use Rattle.pcode_laws.proofs.Rules.{neither}
use Rattle.frame_law.specs.Aligned.{ram_size, AllFramed, Aligned}

abbrev pub framed : Layout → ℕ → Bool
framed y a = is_framed y (first_ram y.listing) a

-- The bytes of the memories are equal, and a frame variable's byte that isn't spoiled is what its access finds.
pub record Same (y : Layout) (w : Whole) (v : Apart) : Type 0 where
  pub bytes : w.bytes ≡ v.bytes
  pub own : (a : ℕ)
      → a < ram_size y
      → framed y a ≡ true
      → w.spoiled a ≡ false
      → v.own (offset_from (ram_size y) y.stack0 a) ≡ found y.listing w a

abbrev pub ErrIs : {B : Type 0} → End → Result B End → Type 0
ErrIs e (Ok y) = ⊥
ErrIs e (Err f) = f ≡ e

-- both succeed alike, or end alike, or the first ends Outside
abbrev pub Agrees : {A B : Type 0} → (A → B → Type 0) → Result A End → Result B End → Type 0
Agrees R (Ok x) (Ok y) = R x y
Agrees R (Ok x) (Err e) = ⊥
Agrees R (Err e) y = (e ≡ Outside) ⊎ ErrIs e y

-- ---- offsets

module _ (size stack0 : ℕ) (low : stack0 < size) where
  next_offset : (a : ℕ) → a < size → offset_from size stack0 (next size a) ≡ next size (offset_from size stack0 a)
  next_offset a lt = grind (arith, nat_tests)

  offset_apart : (a b : ℕ)
      → a < size
      → b < size
      → a ≢ b
      → offset_from size stack0 a ≢ offset_from size stack0 b
  offset_apart a b la lb ne e = ne (grind (arith, nat_tests))

-- ---- one byte

is_equal : (s r : ℕ) → (s == r) ≡ true → s ≡ r
is_equal s r t = grind (arith, nat_tests)

put_as : {A : Type 0} (f : ℕ → A) (x : ℕ) (v : A) (y : ℕ) → y ≡ x → put f x v y ≡ v
put_as f x v y e = ap (put f x v) e ∙ put_at f x v

byte_else : (s a b r x : ℕ) (m : ℕ → ℕ → ℕ) → (s ≡ r → x ≢ a) → put_in s a b m r x ≡ m r x
byte_else s a b r x m ne =
    put_in_else s a b m r x (⊎_elim (λ (e : s ≡ r). inr (ne e)) (λ (d : s ≢ r). inl (λ e. d (sym e))) (cases_eq s r))

hidden_else : (t : Bool) (hidden : ℕ → Option ℕ) (a x : ℕ)
    → (t ≡ true → x ≢ a)
    → cond t (put hidden a None) hidden x ≡ hidden x
hidden_else true hidden a x ne = put_else hidden a None x (ne refl)
hidden_else false hidden a x ne = refl

module _ (y : Layout) where
  -- one is a frame variable's byte and the other isn't
  differ : (s x a : ℕ)
      → framed y x ≡ true
      → is_framed y s a ≡ false
      → s ≡ first_ram y.listing
      → x ≢ a
  differ s x a p q e f =
      let z : framed y x ≡ is_framed y s a = ap (λ r. is_framed y r x) (sym e) ∙ ap (is_framed y s) f in
      absurd (cc)

  -- a byte that is no frame variable's is written
  same_poke : (s a b : ℕ) (w : Whole) (v : Apart)
      → is_framed y s a ≡ false
      → Same y w v
      → Same y (poke_whole y.listing s a b w) (poke_apart s a b v)
  same_poke s a b w v out h = record {
    bytes = ap (λ m. put_in s a b m) h.bytes;
    own = λ x lt fr clear.
        let ram = first_ram y.listing in
        let ne : s ≡ ram → x ≢ a = differ s x a fr out in
        let eh : unhidden y.listing s a w.hidden x ≡ w.hidden x =
        hidden_else (s == ram) w.hidden a x (λ t. ne (is_equal s ram t)) in
        let eb : poke s a b w.bytes ram x ≡ w.bytes ram x = byte_else s a b ram x w.bytes ne in
        h.own x lt fr clear
        ∙ sym (ap (λ z. or_else z (poke s a b w.bytes ram x)) eh ∙ ap (λ n. or_else (w.hidden x) n) eb);
  }

  -- a frame variable's byte is written
  same_tuck : (a c b : ℕ) (w : Whole) (v : Apart)
      → y.stack0 < ram_size y
      → a < ram_size y
      → c ≡ offset_from (ram_size y) y.stack0 a
      → Same y w v
      → Same y (tuck a b w) (keep_own c b v)
  same_tuck a c b w v low la at h = record {
    bytes = h.bytes;
    own = λ x lt fr clear.
        let offset = offset_from (ram_size y) y.stack0 in
        let memory = w.bytes (first_ram y.listing) x in
        ⊎_elim
        (λ (e : x ≡ a).
        put_as v.own c b (offset x) (ap offset e ∙ sym at)
        ∙ sym (ap (λ z. or_else z memory) (put_as w.hidden a (Some b) x e)))
        (λ (ne : x ≢ a).
        put_else v.own c b (offset x) (λ e. offset_apart (ram_size y) y.stack0 low x a lt la ne (e ∙ at))
        ∙ h.own x lt fr (sym (put_else w.spoiled a false x ne) ∙ clear)
        ∙ sym (ap (λ z. or_else z memory) (put_else w.hidden a (Some b) x ne)))
        (cases_eq x a);
  }

  -- a callee hides a byte; a frame variable's is spoiled
  same_conceal : (a b : ℕ) (w : Whole) (v : Apart) → Same y w v → Same y (conceal y a b w) v
  same_conceal a b w v h = record {
    bytes = h.bytes;
    own = λ x lt fr clear.
        let spoils = or (framed y a) (w.spoiled a) in
        let memory = w.bytes (first_ram y.listing) x in
        ⊎_elim
        (λ (e : x ≡ a).
        let none : framed y a ≡ false = (neither (framed y a) (w.spoiled a)
        (sym (put_as w.spoiled a spoils x e) ∙ clear)).0 in
        absurd (differ (first_ram y.listing) x a fr none refl e))
        (λ (ne : x ≢ a).
        h.own x lt fr (sym (put_else w.spoiled a spoils x ne) ∙ clear)
        ∙ sym (ap (λ z. or_else z memory) (put_else w.hidden a (Some b) x ne)))
        (cases_eq x a);
  }

-- ---- several bytes

module _ (y : Layout) where
  same_pokes : (s a : ℕ) (bs : List ℕ) (w : Whole) (v : Apart)
      → any_framed y s a (length bs) ≡ false
      → Same y w v
      → Same y (each_at (size_of y.listing s) (poke_whole y.listing s) a bs w)
      (each_at (size_of y.listing s) (poke_apart s) a bs v)
  same_pokes s a [] w v out h = h
  same_pokes s a (b ∷ bs) w v out h =
      let outs = neither (is_framed y s a) _ out in
      same_pokes s (next (size_of y.listing s) a) bs (poke_whole y.listing s a b w) (poke_apart s a b v) outs.1
      (same_poke y s a b w v outs.0 h)

module _ (y : Layout) (low : y.stack0 < ram_size y) where
  offset_goes : (a c : ℕ)
      → a < ram_size y
      → c ≡ offset_from (ram_size y) y.stack0 a
      → next (ram_size y) c ≡ offset_from (ram_size y) y.stack0 (next (ram_size y) a)
  offset_goes a c la at = ap (next (ram_size y)) at ∙ sym (next_offset (ram_size y) y.stack0 low a la)

  same_tucks : (a c : ℕ) (bs : List ℕ) (w : Whole) (v : Apart)
      → a < ram_size y
      → c ≡ offset_from (ram_size y) y.stack0 a
      → Same y w v
      → Same y (each_at (ram_size y) tuck a bs w) (each_at (ram_size y) keep_own c bs v)
  same_tucks a c [] w v la at h = h
  same_tucks a c (b ∷ bs) w v la at h =
      same_tucks (next (ram_size y) a) (next (ram_size y) c) bs (tuck a b w) (keep_own c b v)
      (next_below (ram_size y) a la) (offset_goes a c la at) (same_tuck y a c b w v low la at h)

  framed_at : (a c : ℕ)
      → c ≡ offset_from (ram_size y) y.stack0 a
      → y.frame.framed c ≡ true
      → framed y a ≡ true
  framed_at a c at f =
      let ram = first_ram y.listing in
      let t : (ram == ram) ≡ true = grind (arith, nat_tests) in
      ap (λ b. b && y.frame.framed (offset_from (ram_size y) y.stack0 a)) t ∙ ap y.frame.framed (sym at) ∙ f

  same_found : (a c k : ℕ) (w : Whole) (v : Apart)
      → a < ram_size y
      → c ≡ offset_from (ram_size y) y.stack0 a
      → AllFramed y c k
      → any_spoiled y.listing w a k ≡ false
      → Same y w v
      → bytes_at (ram_size y) (found y.listing w) a k ≡ bytes_at (ram_size y) v.own c k
  same_found a c zero w v la at fr clear h = refl
  same_found a c (suc k) w v la at fr clear h =
      let clears = neither (w.spoiled a) _ clear in
      let here : found y.listing w a ≡ v.own c =
      sym (ap v.own at ∙ h.own a la (framed_at a c at fr.0) clears.0) in
      let rest = same_found (next (ram_size y) a) (next (ram_size y) c) k w v (next_below (ram_size y) a la)
      (offset_goes a c la at) fr.1 clears.1 h in
      cc

-- ---- acts

module _ {A B : Type 0} (R : A → B → Type 0) where
  agrees_out : (b : Bool) (x : Result A End) (z : Result B End)
      → (b ≡ false → Agrees R x z)
      → Agrees R (unless b Outside x) z
  agrees_out true x z f = inl refl
  agrees_out false x z f = f refl

  agrees_both : (b : Bool) (e : End) (x : Result A End) (z : Result B End)
      → Agrees R x z
      → Agrees R (unless b e x) (unless b e z)
  agrees_both true e x z f = inr refl
  agrees_both false e x z f = f

abbrev pub Equal : {A : Type 0} → A → A → Type 0
Equal x z = x ≡ z

module _ (y : Layout) where
  -- by a pointer
  read_by : (s a k : ℕ) (w : Whole) (v : Apart)
      → Same y w v
      → Agrees Equal ((whole y).read s a k w) ((apart y.listing).read s a k v)
  read_by s a k w v h =
      let seen : Result (List ℕ) End = Ok (bytes_at (size_of y.listing s) (w.bytes s) a k) in
      let read : Result (List ℕ) End = Ok (bytes_at (size_of y.listing s) (v.bytes s) a k) in
      agrees_out Equal (any_framed y s a k) (unless (any_hidden y.listing w s a k) Outside seen) read
      (λ e. agrees_out Equal (any_hidden y.listing w s a k) seen read
      (λ f. ap (λ m. bytes_at (size_of y.listing s) (m s) a k) h.bytes))

  pub write_agrees : (s a : ℕ) (bs : List ℕ) (w : Whole) (v : Apart)
      → Same y w v
      → Agrees (Same y) ((whole y).write s a bs w) ((apart y.listing).write s a bs v)
  write_agrees s a bs w v h =
      let fixed = any_fixed y.listing s a (length bs) in
      let old : Result Whole End = Ok (each_at (size_of y.listing s) (poke_whole y.listing s) a bs w) in
      let new : Result Apart End = Ok (each_at (size_of y.listing s) (poke_apart s) a bs v) in
      agrees_out (Same y) (any_framed y s a (length bs)) (unless fixed ReadOnlyWrite old)
      (unless fixed ReadOnlyWrite new)
      (λ e. agrees_both (Same y) fixed ReadOnlyWrite old new (same_pokes y s a bs w v e h))

  byte_agrees : (x : ByteWrite) (w : Whole) (v : Apart)
      → Same y w v
      → Agrees (Same y) ((whole y).answer x w) ((apart y.listing).answer x v)
  byte_agrees x w v h =
      let old : Result Whole End = Ok (poke_whole y.listing x.space x.offset x.value w) in
      let new : Result Apart End = Ok (poke_apart x.space x.offset x.value v) in
      let fixed = is_fixed y.listing x.space x.offset in
      agrees_out (Same y) (is_framed y x.space x.offset) (unless fixed ReadOnlyWrite old)
      (unless fixed ReadOnlyWrite new)
      (λ e. agrees_both (Same y) fixed ReadOnlyWrite old new (same_poke y x.space x.offset x.value w v e h))

  then_agrees : (xs : List ByteWrite) (x : Result Whole End) (z : Result Apart End)
      → Agrees (Same y) x z
      → ((w : Whole) (v : Apart) → Same y w v → Agrees (Same y) (write_all (whole y) xs w)
      (write_all (apart y.listing) xs v))
      → Agrees (Same y) (and_then x (write_all (whole y) xs)) (and_then z (write_all (apart y.listing) xs))
  then_agrees xs (Ok x) (Ok z) r h = h x z r
  then_agrees xs (Ok x) (Err e) r h = absurd r
  then_agrees xs (Err e) (Ok z) (inl r) h = inl r
  then_agrees xs (Err e) (Ok z) (inr r) h = absurd r
  then_agrees xs (Err e) (Err z) r h = r

  -- the bytes that an answer writes
  pub answer_agrees : (xs : List ByteWrite) (w : Whole) (v : Apart)
      → Same y w v
      → Agrees (Same y) (write_all (whole y) xs w) (write_all (apart y.listing) xs v)
  answer_agrees [] w v h = h
  answer_agrees (x ∷ xs) w v h =
      then_agrees xs ((whole y).answer x w) ((apart y.listing).answer x v) (byte_agrees x w v h)
      (λ a b r. answer_agrees xs a b r)

  -- and those that it hides
  pub hide_same : (xs : List HiddenWrite) (w : Whole) (v : Apart)
      → Same y w v
      → Same y (hide_all (whole y) xs w) (hide_all (apart y.listing) xs v)
  hide_same [] w v h = h
  hide_same (x ∷ xs) w v h =
      hide_same xs (conceal y x.offset x.value w) v (same_conceal y x.offset x.value w v h)

module _ (y : Layout) (low : y.stack0 < ram_size y) where
  pub read_agrees : (own : Option ℕ) (s a k : ℕ) (w : Whole) (v : Apart)
      → Aligned y own s a k
      → Same y w v
      → Agrees Equal (read_at (whole y) own s a k w) (read_at (apart y.listing) own s a k v)
  read_agrees None s a k w v al h = read_by y s a k w v h
  read_agrees (Some c) s a k w v al h =
      agrees_out {A = List ℕ} {B = List ℕ} Equal (any_spoiled y.listing w a k)
      (Ok (bytes_at (ram_size y) (found y.listing w) a k)) (Ok (bytes_at (ram_size y) v.own c k))
      (λ e. same_found y low a c k w v al.inside al.offset al.framed e h)

  pub write_own_same : (a c : ℕ) (bs : List ℕ) (w : Whole) (v : Apart)
      → a < ram_size y
      → c ≡ offset_from (ram_size y) y.stack0 a
      → Same y w v
      → Same y ((whole y).write_own a c bs w) ((apart y.listing).write_own a c bs v)
  write_own_same a c bs w v la at h = same_tucks y low a c bs w v la at h
