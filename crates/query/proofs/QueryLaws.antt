-- Laws of a query's text: what its writers go by, how long it is, and which characters it has.
use mathlib.Core.Path.{◌≡◌}
use mathlib.Core.List.{List, [], ◌∷◌, ◌++◌}
use Prim.Native.Nat.{ℕ, zero, suc, ◌+◌, ◌*◌, ◌/◌, ◌%◌, ◌≤◌, ◌<◌}
use native.Mathlib.Omega.{arith}
use lib.Dec.{ltb}
use lib.ListN.{length, length-append}
use borrow.Author.Tests.{lt-ltb, le-ltb, ltb-true}
use Rattle.wire.proofs.Cases.{by_test}
use Rattle.hex_text.specs.Digits.{hex_digit, hex_byte, hex_bytes}
use Rattle.wire.proofs.All.{All, all_append}
use Rattle.hex_text.proofs.DigitLaws.{bytes_all, bytes_length, digit_between}
use Rattle.query.specs.Query.{decimal, count_text, text_of_query}

-- ---- how long a query is

decimal-length : (n : ℕ) → length (decimal n) ≤ 3
decimal-length n =
    by_test (ltb n 10)
    (λ e. rw e (omega arith))
    (λ e. rw e (by_test (ltb n 100) (λ f. rw f (omega arith)) (λ f. rw f (omega arith))))

count_length : (count : ℕ) → length (count_text count) ≤ 4
count_length zero = omega arith
count_length (suc n) = omega (arith, decimal-length n)

-- its length: a mode and a PID take two characters each
pub query-length : (pids : List ℕ) (count : ℕ) → length (text_of_query pids count) ≡ 2 + (2 * length pids + length (count_text count))
unfolding text_of_query
query-length pids count = omega (arith, length-append (hex_bytes pids) (count_text count), bytes_length pids)

-- six PIDs and a count take at most 18
pub query_short : (pids : List ℕ) (count : ℕ) → length pids ≤ 6 → length (text_of_query pids count) ≤ 18
query_short pids count h = omega (arith, query-length pids count, count_length count)

-- it is never empty
pub query_some : (pids : List ℕ) (count : ℕ) → 0 < length (text_of_query pids count)
query_some pids count = omega (arith, query-length pids count)

-- ---- its characters: a space and capital hex digits

digit-decimal : (n : ℕ) → n < 10 → hex_digit n ≡ 48 + n
unfolding hex_digit
digit-decimal n h = rw (lt-ltb n 10 h)

-- what holds of them holds of every character of a query
module _ (P : ℕ → Type 0) (space : P 32) (digit : (d : ℕ) → d < 16 → P (hex_digit d)) where
  decimal_digit : (n : ℕ) → n < 10 → P (48 + n)
  decimal_digit n h = rw (← digit-decimal n h) (digit n (omega arith))

  decimal_all : (n : ℕ) → n < 1000 → All P (decimal n)
  decimal_all n h =
      by_test (ltb n 10)
      (λ e. let k = ltb-true n 10 e in rw e (decimal_digit n k, tt))
      (λ e.
      rw e
      (by_test (ltb n 100)
      (λ f. let k = ltb-true n 100 f in rw f (decimal_digit (n / 10) (omega arith), (decimal_digit (n % 10) (omega arith), tt)))
      (λ f. rw f (decimal_digit (n / 100) (omega arith), (decimal_digit (n / 10 % 10) (omega arith), (decimal_digit (n % 10) (omega arith), tt))))))

  count_all : (count : ℕ) → count ≤ 256 → All P (count_text count)
  count_all zero h = tt
  count_all (suc n) h = (space, decimal_all n (omega arith))

  pub query_all : (pids : List ℕ) (count : ℕ) → count ≤ 256 → All P (text_of_query pids count)
  unfolding text_of_query
  query_all pids count h =
      (decimal_digit 0 (omega arith), (decimal_digit 1 (omega arith), all_append P (hex_bytes pids) (count_text count) (bytes_all P digit pids) (count_all count h)))

-- so each lies between 20 and 46 hex
pub query-within : (pids : List ℕ) (count : ℕ) → count ≤ 256 → All (λ c. (32 ≤ c) × (c ≤ 70)) (text_of_query pids count)
query-within pids count h = query_all (λ c. (32 ≤ c) × (c ≤ 70)) (omega arith) (λ d k. (let b = digit_between d k in (omega (arith, b.0), b.1))) pids count h
