-- Laws of formats: reading gives back what was written, nothing else is read, and what is left ends the bytes. Each is proved once for each way to make a format.
use mathlib.Core.Path.{◌≡◌, refl, sym, ap, ◌∙◌}
use mathlib.Core.Bool.{Bool, true}
use mathlib.Core.List.{List, [], ◌∷◌, ◌++◌, append_assoc}
use Prim.Native.Nat.{ℕ, zero, suc, ◌-◌, ◌≤◌, ◌<◌}
use native.Mathlib.Omega.{arith}
use lib.ListN.{length, drop, length-append, take-append-drop}
use lib.Seq.{length-take-le, drop-append_seam}
use lib.Dec.{leb}
use Rattle.wire.proofs.ListLaws.{Ends, ends_more}
use Rattle.wire.proofs.Cases.{by_test, from_no}
use Rattle.wire.proofs.All.{Bytes}
use Rattle.group.specs.Group.{Read, got, failed, and_then}
use Rattle.group.specs.Format.{Format, read_byte, byte, any_group, group, bytes_of, field, last, having, limited_to, counted, Each, write_row, read_row, row_of, read_all}
use Rattle.group.proofs.GroupLaws.{read_written, group_written, group_got, only_written, read_rest, bytes_written, bytes_got, then_got, bytes_append, group_fails}

pub record Lawful {A : Type 0} (f : Format A) : Type 0 where
  pub back : (a : A) (rest : List ℕ) → f.Fits a → f.read (f.write a ++ rest) ≡ got a rest
  pub fits : (s : List ℕ) (a : A) (rest : List ℕ) → f.read s ≡ got a rest → f.Fits a
  pub only : (s : List ℕ) (a : A) (rest : List ℕ) → Bytes s → f.read s ≡ got a rest → s ≡ f.write a ++ rest
  pub ends : (s : List ℕ) (a : A) (rest : List ℕ) → f.read s ≡ got a rest → Ends s rest

-- what is read takes at least one byte
abbrev pub Some : {A : Type 0} → Format A → Type 0
Some {A} f = (s : List ℕ) (a : A) (rest : List ℕ) → f.read s ≡ got a rest → length rest < length s

-- what follows some bytes is bytes
pub bytes_after : (a t : List ℕ) {s : List ℕ} → Bytes s → s ≡ a ++ t → Bytes t
bytes_after a t bs q = (bytes_append a t (rw q at bs)).1

ends_self : (s : List ℕ) → Ends s s
ends_self s = let none : 0 ≡ length s - length s = omega arith in (omega arith, ap (λ n. drop n s) none)

-- Single things

pub any_lawful : Lawful any_group
any_lawful = record {
  back = λ n rest f. read_written n rest;
  fits = λ s n rest q. tt;
  only = λ s n rest bs q. only_written s n rest bs q;
  ends = λ s n rest q. let r = read_rest s n rest q in (omega (arith, r.0), r.1);
}

pub any_some : Some any_group
any_some s n rest q = (read_rest s n rest q).0

pub group_lawful : (limit : ℕ) → Lawful (group limit)
group_lawful limit = record {
  back = λ n rest f. group_written limit n rest f;
  fits = λ s n rest q. (group_got limit n s rest q).0;
  only = λ s n rest bs q. only_written s n rest bs (group_got limit n s rest q).1;
  ends = λ s n rest q. any_lawful.ends s n rest (group_got limit n s rest q).1;
}

pub group_some : (limit : ℕ) → Some (group limit)
group_some limit s n rest q = any_some s n rest (group_got limit n s rest q).1

byte_got : (s : List ℕ) (b : ℕ) (rest : List ℕ) → read_byte s ≡ got b rest → s ≡ b ∷ rest
byte_got [] b rest q = from_no cc
byte_got (c ∷ s) b rest q = cc

pub ends-append : (s t : List ℕ) → Ends (s ++ t) t
ends-append s t =
    let place : length s ≡ length (s ++ t) - length t = omega (arith, length-append s t) in
    (omega (arith, length-append s t), sym (drop-append_seam s t) ∙ ap (λ n. drop n (s ++ t)) place)

pub byte_lawful : Lawful byte
byte_lawful = record {
  back = λ b rest f. refl;
  fits = λ s b rest q. tt;
  only = λ s b rest bs q. byte_got s b rest q;
  ends = λ s b rest q. rw (byte_got s b rest q) (ends-append (b ∷ []) rest);
}

pub byte_some : Some byte
byte_some s b rest q = omega (arith, ap length (byte_got s b rest q))

pub bytes_whole : (n : ℕ) (s d rest : List ℕ) → (bytes_of n).read s ≡ got d rest → s ≡ d ++ rest
bytes_whole n s d rest q = let (room, taken, left) = bytes_got n s d rest q in sym (take-append-drop n s) ∙ rw (← taken, ← left)

pub bytes_lawful : (n : ℕ) → Lawful (bytes_of n)
bytes_lawful n = record {
  back = λ d rest f. rw (← f) (bytes_written d rest);
  fits = λ s d rest q. let (room, taken, left) = bytes_got n s d rest q in ap length taken ∙ length-take-le n s room;
  only = λ s d rest bs q. bytes_whole n s d rest q;
  ends = λ s d rest q. rw (bytes_whole n s d rest q) (ends-append d rest);
}

-- One thing after another

module _ {A B : Type 0} (part : A → B) {f : Format B} {rest : B → Format A} (lf : Lawful f) (lr : (b : B) → Lawful (rest b)) where
  -- the part that was written first is the one of what is read after it
  module _ (same : (b : B) (a : A) → (rest b).Fits a → part a ≡ b) where
    pub field_lawful : Lawful (field part f rest)
    field_lawful = record {
      back = λ a t h. rw (append_assoc (f.write (part a)) ((rest (part a)).write a) t, lf.back (part a) ((rest (part a)).write a ++ t) h.0) ((lr (part a)).back a t h.1);
      fits = λ s a t q.
          let (b, u, g, q₁) = then_got (f.read s) _ a t q in
          let h = (lr b).fits u a t q₁ in
          let e = same b a h in
          rw e (lf.fits s b u g, h);
      only = λ s a t bs q.
          let (b, u, g, q₁) = then_got (f.read s) _ a t q in
          let e = same b a ((lr b).fits u a t q₁) in
          let w = lf.only s b u bs g in
          let w₂ = (lr b).only u a t (bytes_after (f.write b) u bs w) q₁ in
          rw (e, append_assoc (f.write b) ((rest b).write a) t) (w ∙ ap (λ x. f.write b ++ x) w₂);
      ends = λ s a t q.
          let (b, u, g, q₁) = then_got (f.read s) _ a t q in
          ends_more s u t (lf.ends s b u g) ((lr b).ends u a t q₁);
    }

    -- what follows the part
    pub field_tail : (s : List ℕ) (a : A) (t : List ℕ) → (field part f rest).read s ≡ got a t → (u : List ℕ) × Ends s u × ((rest (part a)).read u ≡ got a t)
    field_tail s a t q =
        let (b, u, g, q₁) = then_got (f.read s) _ a t q in
        (u, lf.ends s b u g, rw (same b a ((lr b).fits u a t q₁)) q₁)

  pub field_some : Some f → Some (field part f rest)
  field_some some s a t q =
      let (b, u, g, q₁) = then_got (f.read s) _ a t q in
      let less = some s b u g in
      omega (arith, ((lr b).ends u a t q₁).0)

module _ {A B : Type 0} (part : A → B) (make : B → A) {f : Format B} (lf : Lawful f) where
  last_got : (s : List ℕ) (a : A) (t : List ℕ) → (last part f make).read s ≡ got a t → (b : B) × (f.read s ≡ got b t) × (make b ≡ a)
  last_got s a t q = let (b, u, g, q₁) = then_got (f.read s) _ a t q in (b, g ∙ ap (got b) (cc), cc)

  module _ (same : (b : B) → f.Fits b → part (make b) ≡ b) where
    pub last_lawful : Lawful (last part f make)
    last_lawful = record {
      back = λ a t h. rw (lf.back (part a) t h.0) (ap (λ x. got x t) h.1);
      fits = λ s a t q. let (b, g, e) = last_got s a t q in let h = lf.fits s b t g in rw (← e, same b h) (h, refl);
      only = λ s a t bs q. let (b, g, e) = last_got s a t q in lf.only s b t bs g ∙ ap (λ x. f.write x ++ t) (sym (same b (lf.fits s b t g)) ∙ ap part e);
      ends = λ s a t q. let (b, g, e) = last_got s a t q in lf.ends s b t g;
    }

    pub last_tail : (s : List ℕ) (a : A) (t : List ℕ) → (last part f make).read s ≡ got a t → f.read s ≡ got (part a) t
    last_tail s a t q = let (b, g, e) = last_got s a t q in g ∙ ap (λ x. got x t) (sym (same b (lf.fits s b t g)) ∙ ap part e)

module _ {A : Type 0} {f : Format A} (test : A → Bool) (l : Lawful f) where
  pub having_got : (s : List ℕ) (a : A) (t : List ℕ) → (having f test).read s ≡ got a t → (f.read s ≡ got a t) × (test a ≡ true)
  having_got s a t q =
      let (b, u, g, q₁) = then_got (f.read s) _ a t q in
      by_test (test b)
      (λ e. let q₂ : got b u ≡ got a t = rw e at q₁ in let is : b ≡ a = cc in (g ∙ q₂, rw (← is) e))
      (λ e. let q₂ = rw e at q₁ in from_no cc)

  pub having_lawful : Lawful (having f test)
  having_lawful = record {
    back = λ a t h. rw (l.back a t h.0, h.1);
    fits = λ s a t q. let (g, e) = having_got s a t q in (l.fits s a t g, e);
    only = λ s a t bs q. l.only s a t bs (having_got s a t q).0;
    ends = λ s a t q. l.ends s a t (having_got s a t q).0;
  }

  pub having_some : Some f → Some (having f test)
  having_some some s a t q = some s a t (having_got s a t q).0

module _ {A : Type 0} {P : A → Type 0} {f : Format A} (to : (a : A) → P a → f.Fits a) (from : (a : A) → f.Fits a → P a) (l : Lawful f) where
  pub limited_lawful : Lawful (limited_to P f)
  limited_lawful = record { back = λ a t h. l.back a t (to a h); fits = λ s a t q. from a (l.fits s a t q); only = l.only; ends = l.ends }

-- Rows

pub each_map : {A : Type 0} {P Q : A → Type 0} → ((x : A) → P x → Q x) → (xs : List A) → Each P xs → Each Q xs
each_map f [] h = tt
each_map f (x ∷ xs) h = (f x h.0, each_map f xs h.1)

-- what a thing and then some things have read
cons_got : {A : Type 0} (g : Read A) (k : List ℕ → Read (List A)) (xs : List A) (t : List ℕ) → and_then g (λ x s. and_then (k s) (λ xs s. got (x ∷ xs) s)) ≡ got xs t →
    (y : A) × (ys : List A) × (u : List ℕ) × (g ≡ got y u) × (k u ≡ got ys t) × (y ∷ ys ≡ xs)
cons_got g k xs t q =
    let (y, u, g₁, q₁) = then_got g _ xs t q in
    let (ys, v, g₂, q₂) = then_got (k u) _ xs t q₁ in
    (y, ys, u, g₁, g₂ ∙ ap (got ys) (cc), cc)

module _ {A : Type 0} {f : Format A} (l : Lawful f) where
  row_back : (xs : List A) (t : List ℕ) → Each f.Fits xs → read_row f (length xs) (write_row f xs ++ t) ≡ got xs t
  row_back [] t h = refl
  row_back (x ∷ xs) t h = rw (append_assoc (f.write x) (write_row f xs) t, l.back x (write_row f xs ++ t) h.0, row_back xs t h.1)

  row_fits : (n : ℕ) (s : List ℕ) (xs : List A) (t : List ℕ) → read_row f n s ≡ got xs t → (length xs ≡ n) × Each f.Fits xs
  row_fits zero s xs t q = let none : [] ≡ xs = cc in rw (← none) (refl, tt)
  row_fits (suc n) s xs t q =
      let (y, ys, u, g, r, e) = cons_got (f.read s) (read_row f n) xs t q in
      let (size, each) = row_fits n u ys t r in
      rw (← e) (ap suc size, (l.fits s y u g, each))

  row_only : (n : ℕ) (s : List ℕ) (xs : List A) (t : List ℕ) → Bytes s → read_row f n s ≡ got xs t → s ≡ write_row f xs ++ t
  row_only zero s xs t bs q = let none : [] ≡ xs = cc in rw (← none) (cc)
  row_only (suc n) s xs t bs q =
      let (y, ys, u, g, r, e) = cons_got (f.read s) (read_row f n) xs t q in
      let w = l.only s y u bs g in
      rw (← e, append_assoc (f.write y) (write_row f ys) t) (w ∙ ap (λ r. f.write y ++ r) (row_only n u ys t (bytes_after (f.write y) u bs w) r))

  row_ends : (n : ℕ) (s : List ℕ) (xs : List A) (t : List ℕ) → read_row f n s ≡ got xs t → Ends s t
  row_ends zero s xs t q = let same : s ≡ t = cc in rw (← same) (ends_self s)
  row_ends (suc n) s xs t q =
      let (y, ys, u, g, r, e) = cons_got (f.read s) (read_row f n) xs t q in
      ends_more s u t (l.ends s y u g) (row_ends n u ys t r)

  pub row_lawful : (n : ℕ) → Lawful (row_of f n)
  row_lawful n = record {
    back = λ xs t h. rw (← h.0) (row_back xs t h.1);
    fits = row_fits n;
    only = row_only n;
    ends = row_ends n;
  }

  pub counted_lawful : {k : Format ℕ} → Lawful k → Lawful (counted k (row_of f))
  counted_lawful lk = field_lawful length lk row_lawful (λ n xs h. h.0)

pub counted_bytes : {k : Format ℕ} → Lawful k → Lawful (counted k bytes_of)
counted_bytes lk = field_lawful length lk bytes_lawful (λ n d h. h)

-- bytes whose number stands before them, and what follows them
pub counted_bytes_end : {k : Format ℕ} → Lawful k → (s d t : List ℕ) → (counted k bytes_of).read s ≡ got d t → Ends s (d ++ t)
counted_bytes_end lk s d t q =
    let (u, e, g) = field_tail length lk bytes_lawful (λ n d h. h) s d t q in
    rw (← bytes_whole (length d) u d t g) e

-- Rows to the end of the bytes

-- where bytes are left, a thing is read from them
pub all_more : {A : Type 0} (f : Format A) (n : ℕ) (s : List ℕ) → 0 < length s → read_all f (suc n) s ≡ and_then (f.read s) (λ x s. and_then (read_all f n s) (λ xs s. got (x ∷ xs) s))
all_more f n [] h = absurd (omega arith)
all_more f n (b ∷ s) h = refl

-- At most n things were read from all of s: they fit, and s is what they are written as.
pub record AllRead {A : Type 0} (f : Format A) (n : ℕ) (s : List ℕ) (xs : List A) (t : List ℕ) : Type 0 where
  pub ends : t ≡ []
  pub few : length xs ≤ n
  pub fit : Each f.Fits xs
  pub written : Bytes s → s ≡ write_row f xs

module _ {A : Type 0} {f : Format A} (l : Lawful f) where
  none_read : (n : ℕ) (xs : List A) (t : List ℕ) → got [] [] ≡ got xs t → AllRead f n [] xs t
  none_read n xs t q = let none : [] ≡ xs = cc in rw (← none) (record { ends = cc; few = omega arith; fit = tt; written = λ bs. refl })

  pub all_got : (n : ℕ) (s : List ℕ) (xs : List A) (t : List ℕ) → read_all f n s ≡ got xs t → AllRead f n s xs t
  all_got zero [] xs t q = none_read zero xs t q
  all_got (suc n) [] xs t q = none_read (suc n) xs t q
  all_got zero (b ∷ s) xs t q = from_no cc
  all_got (suc n) (b ∷ s) xs t q =
      let (y, ys, u, g, r, e) = cons_got (f.read (b ∷ s)) (read_all f n) xs t q in
      let a = all_got n u ys t r in
      rw (← e)
      (record {
        ends = a.ends;
        few = omega (arith, a.few);
        fit = (l.fits (b ∷ s) y u g, a.fit);
        written = λ bs. let w = l.only (b ∷ s) y u bs g in w ∙ ap (λ r. f.write y ++ r) (a.written (bytes_after (f.write y) u bs w));
      })

  module _ (some : Some f) where
    -- a thing takes at least one byte
    pub thing_some : (x : A) (t : List ℕ) → f.Fits x → length t < length (f.write x ++ t)
    thing_some x t h = some (f.write x ++ t) x t (l.back x t h)

    pub all_back : (n : ℕ) (xs : List A) → Each f.Fits xs → length xs ≤ n → read_all f n (write_row f xs) ≡ got xs []
    all_back zero [] h k = refl
    all_back (suc n) [] h k = refl
    all_back zero (x ∷ xs) h k = absurd (omega arith)
    all_back (suc n) (x ∷ xs) h k =
        all_more f n (f.write x ++ write_row f xs) (omega (arith, thing_some x (write_row f xs) h.0)) ∙
        rw (l.back x (write_row f xs) h.0, all_back n xs h.1 (omega arith))

    -- so as many steps as there are bytes are enough
    few_things : (xs : List A) → Each f.Fits xs → length xs ≤ length (write_row f xs)
    few_things [] h = omega arith
    few_things (x ∷ xs) h = omega (arith, thing_some x (write_row f xs) h.0, few_things xs h.1)

    pub whole_back : (xs : List A) → Each f.Fits xs → read_all f (length (write_row f xs)) (write_row f xs) ≡ got xs []
    whole_back xs h = all_back (length (write_row f xs)) xs h (few_things xs h)

    same_after : (m n : ℕ) (g : Read A) → ((x : A) (t : List ℕ) → g ≡ got x t → read_all f m t ≡ read_all f n t) →
        and_then g (λ x t. and_then (read_all f m t) (λ xs t. got (x ∷ xs) t)) ≡ and_then g (λ x t. and_then (read_all f n t) (λ xs t. got (x ∷ xs) t))
    same_after m n (failed j) h = refl
    same_after m n (got x t) h = rw (h x t refl)

    pub enough : (m n : ℕ) (s : List ℕ) → length s ≤ m → length s ≤ n → read_all f m s ≡ read_all f n s
    enough zero zero s h k = refl
    enough zero (suc n) [] h k = refl
    enough zero (suc n) (b ∷ s) h k = absurd (omega arith)
    enough (suc m) zero [] h k = refl
    enough (suc m) zero (b ∷ s) h k = absurd (omega arith)
    enough (suc m) (suc n) [] h k = refl
    enough (suc m) (suc n) (b ∷ s) h k =
        same_after m n (f.read (b ∷ s)) (λ x t g.
        let less = some (b ∷ s) x t g in
        enough m n t (omega arith) (omega arith))

-- What is not read is malformed: it gets 5 and no other number.
pub record OnlyFive {A : Type 0} (f : Format A) : Type 0 where
  pub five : (s : List ℕ) (j : ℕ) → f.read s ≡ failed j → j ≡ 5

then_five : {A B : Type 0} (g : Read A) (k : A → List ℕ → Read B) (j : ℕ) → ((i : ℕ) → g ≡ failed i → i ≡ 5) →
    ((a : A) (s : List ℕ) (i : ℕ) → k a s ≡ failed i → i ≡ 5) → and_then g k ≡ failed j → j ≡ 5
then_five (failed i) k j first second q = let same : i ≡ j = cc in rw (← same) (first i refl)
then_five (got a s) k j first second q = second a s j q

pub group_five : (limit : ℕ) → OnlyFive (group limit)
group_five limit = record { five = group_fails limit }

pub bytes_five : (n : ℕ) → OnlyFive (bytes_of n)
bytes_five n = record {
  five = λ s j q. by_test (leb n (length s)) (λ e. let q₁ = rw e at q in from_no cc) (λ e. let q₁ = rw e at q in cc);
}

module _ {A B : Type 0} (part : A → B) {f : Format B} (w : OnlyFive f) where
  pub field_five : {rest : B → Format A} → ((b : B) → OnlyFive (rest b)) → OnlyFive (field part f rest)
  field_five others = record { five = λ s j q. then_five (f.read s) _ j (w.five s) (λ b. (others b).five) q }

  pub last_five : (make : B → A) → OnlyFive (last part f make)
  last_five make = record { five = λ s j q. then_five (f.read s) _ j (w.five s) (λ b s i q. from_no cc) q }

module _ {A : Type 0} {f : Format A} (w : OnlyFive f) where
  pub having_five : (test : A → Bool) → OnlyFive (having f test)
  having_five test = record {
    five = λ s j q.
        then_five (f.read s) _ j (w.five s) (λ a s i q. by_test (test a) (λ e. let q₁ = rw e at q in from_no cc) (λ e. let q₁ = rw e at q in cc)) q;
  }

  rows_five : (n : ℕ) (s : List ℕ) (j : ℕ) → read_row f n s ≡ failed j → j ≡ 5
  rows_five zero s j q = from_no cc
  rows_five (suc n) s j q = then_five (f.read s) _ j (w.five s) (λ x s i q. then_five (read_row f n s) _ i (rows_five n s) (λ xs s i q. from_no cc) q) q

  pub row_five : (n : ℕ) → OnlyFive (row_of f n)
  row_five n = record { five = rows_five n }

  pub all_five : (n : ℕ) (s : List ℕ) (j : ℕ) → read_all f n s ≡ failed j → j ≡ 5
  all_five zero [] j q = from_no cc
  all_five (suc n) [] j q = from_no cc
  all_five zero (b ∷ s) j q = cc
  all_five (suc n) (b ∷ s) j q =
      then_five (f.read (b ∷ s)) _ j (w.five (b ∷ s)) (λ x s i q. then_five (read_all f n s) _ i (all_five n s) (λ xs s i q. from_no cc) q) q

pub limited_five : {A : Type 0} {P : A → Type 0} {f : Format A} → OnlyFive f → OnlyFive (limited_to P f)
limited_five w = record { five = w.five }
