-- After the initialisation, whatever the pieces: the sessions between queries.
use mathlib.Core.Path.{◌≡◌, refl, sym, ap, subst, ◌∙◌}
use mathlib.Core.Bool.{Bool, true, false}
use mathlib.Core.List.{List, []}
use Prim.Native.Nat.{ℕ, suc, ◌≤◌, ◌<◌}
use native.Mathlib.Omega.{arith}
use lib.Dec.{ltb}
use lib.ListN.{length, length-replicate}
use lib.Seq.{sets, length-sets}
use Rattle.wire.specs.Answer.{result, unless}
use Rattle.wire.specs.Text.{ascii, has, high}
use Rattle.pid.specs.Lengths.{mode01_lengths}
use Rattle.server_state.specs.State.{with_framing}
use Rattle.reply_lines.specs.Lines.{unspaced}
use Rattle.server_session.specs.Session.{Session}
use Rattle.client_session.specs.declared.Command.{Command}
use Rattle.client_session.specs.declared.Command.TheVariants.{Setup}
use Rattle.client_session.specs.declared.Under.TheVariants.{Idle, Awaiting}
use Rattle.client_session.specs.Session.{fresh_client, with_under, with_server}
use Rattle.client_session.specs.Call.{sent, over, ClientSaid}
use Rattle.client_session.specs.Start.{init_says}
use Rattle.client_session.specs.Piece.{completed, piece_says}
use Rattle.client_session.proofs.PiecesLaws as pieces
use Rattle.client_session.proofs.PiecesLaws.{Plainly, prompted}
use Rattle.bench.specs.Exchange.{Exchanged, exchanged}
use Rattle.bench.specs.Run.{send_room, reply_room, fresh_store, Bench, Round, round, onward, reset, round_with, initialised}
use Rattle.bench.specs.Steps.{Delivered, delivered}
use Rattle.agreement.proofs.Heard.{quiet, during, reset-heard, echo_off_heard, linefeeds_off_heard, spaces_off_heard, protocol_heard, headers_on_heard}
use Rattle.agreement.proofs.Arrive.{arrives}

-- a command whose reply is plain, and ends with its prompt: the client comes out as it completes the whole reply
module _ (k : Command) (b : Bench) (command list : List ℕ) (x : Exchanged) (body : List ℕ) where
  abbrev pub settled_reply : ClientSaid
  settled_reply = completed k b.client (prompted body)

  abbrev pub settled : Round
  settled = record {
    answer = settled_reply.answer;
    text = settled_reply.text;
    bench = record {
      client = settled_reply.next;
      store = sets b.store 0 (prompted body);
      server = x.next;
      lengths = (delivered send_room b.client b.store b.lengths (prompted body)).lengths;
    };
    handed = x.handed;
  }

  -- what an exchange and a delivery come to
  abbrev turned : Exchanged → Delivered → Round
  turned x d = round_with d.said d.store d.lengths x

  pub settles : exchanged reply_room b.server command list ≡ x → x.text ≡ prompted body → pieces.Awaiting send_room k b.client b.store [] → Plainly body →
      round b command list ≡ settled
  unfolding delivered
  settles e q w ok =
      let a = arrives k b.client b.store b.lengths body w ok in
      (λ i. turned (e i) (delivered send_room b.client b.store b.lengths (e i).text)) ∙
      ap (λ r. turned x (delivered send_room b.client b.store b.lengths r)) q ∙
      (λ i. record {
        answer = (a.0 i).answer;
        text = (a.0 i).text;
        bench = record {
          client = (a.0 i).next;
          store = a.1 i;
          server = x.next;
          lengths = (delivered send_room b.client b.store b.lengths (prompted body)).lengths;
        };
        handed = x.handed;
      })

-- The sessions between queries: the server's last command is the client's last query less spaces.
pub record Between (b : Bench) : Type 0 where
  pub turn : b.client.under ≡ Idle
  pub framing : b.client.server.framing ≡ true
  pub size : 4096 ≤ length b.store
  pub last : List ℕ
  pub server : b.server ≡ quiet last
  pub linked : 0 < length b.client.last → last ≡ unspaced b.client.last

-- ---- the initialisation

-- the k-th command of the initialisation after ATZ is to be sent
abbrev sends : Bool → ℕ → List ℕ → List ℕ → Session → List ℕ → Round
sends repeat k command store s ks = record {
  answer = result sent;
  text = command;
  bench = record { client = with_under (fresh_client true repeat) (Awaiting (Setup k)) 0; store = store; server = s; lengths = ks };
  handed = [];
}

module _ (n : ℕ) (repeat : Bool) (k : ℕ) (command store : List ℕ) (s : Session) (ks : List ℕ) (next : Session) (body : List ℕ) where
  answers : exchanged reply_room s command [] ≡ record { next = next; text = prompted body; handed = [] } → Plainly body → 4096 ≤ length store → ltb 0 (length command) ≡ true →
      onward (suc n) (sends repeat k command store s ks) [] ≡
      onward n (settled (Setup k) (sends repeat k command store s ks).bench command [] (record { next = next; text = prompted body; handed = [] }) body) []
  answers e ok size some =
      rw some
      (ap (λ (t : Round). onward n t [])
      (settles (Setup k) (sends repeat k command store s ks).bench command [] _ body e refl
      (record { turn = refl; reply = refl; out = omega arith; size = size; got = refl; front = refl }) ok))

ok_plainly : Plainly (ascii "OK\r\r")
unfolding has high
ok_plainly = record { prompt = refl; low = refl; nulls = refl; short = omega arith }

echo_plainly : Plainly (ascii "ATE0\rOK\r\n\r\n")
unfolding has high
echo_plainly = record { prompt = refl; low = refl; nulls = refl; short = omega arith }

store_size : (store r : List ℕ) → 4096 ≤ length store → 4096 ≤ length (sets store 0 r)
store_size store r h = omega (arith, length-sets store 0 r)

fresh_size : 4096 ≤ length fresh_store
fresh_size = omega (arith, length-replicate {A = ℕ} 4096 0)

-- ATZ's echo and answer are one piece, which is dropped
begins : (repeat : Bool) (ks : List ℕ) → initialised repeat ks ≡ onward 5 (sends repeat 0 (ascii "ATE0\r") fresh_store (during true true true false) ks) []
unfolding initialised init_says piece_says unless
begins repeat ks =
    let i = init_says send_room (fresh_client true repeat) in
    ap (λ (x : Exchanged). onward 5 (reset i x ks) []) reset-heard

-- The sessions stand between queries, and no length has been learned.
pub record Started (t : Round) : Type 0 where
  pub answer : t.answer ≡ result over
  pub handed : t.handed ≡ []
  pub between : Between t.bench
  pub lengths : t.bench.client.server.pid_lengths ≡ mode01_lengths

module _ (repeat : Bool) (ks : List ℕ) where
  -- the last of the five has set framing as it was asked for
  ends : (n : ℕ) (store ks : List ℕ) → 4096 ≤ length store →
      Started (record {
        answer = result over;
        text = [];
        bench = record {
          client = let c = fresh_client true repeat in with_under (with_server c (with_framing c.server true)) Idle n;
          store = store;
          server = quiet [];
          lengths = ks;
        };
        handed = [];
      })
  ends n store ks size = record {
    answer = refl;
    handed = refl;
    between = record { turn = refl; framing = refl; size = size; last = []; server = refl; linked = λ h. absurd (omega arith) };
    lengths = refl;
  }

  pub started : Started (initialised repeat ks)
  started =
      let ok = ascii "OK\r\r" in
      let s₁ = sets fresh_store 0 (prompted (ascii "ATE0\rOK\r\n\r\n")) in
      let s₂ = sets s₁ 0 (prompted ok) in
      let s₃ = sets s₂ 0 (prompted ok) in
      let s₄ = sets s₃ 0 (prompted ok) in
      let z₁ : 4096 ≤ length s₁ = store_size fresh_store (prompted (ascii "ATE0\rOK\r\n\r\n")) fresh_size in
      let z₂ : 4096 ≤ length s₂ = store_size s₁ (prompted ok) z₁ in
      let z₃ : 4096 ≤ length s₃ = store_size s₂ (prompted ok) z₂ in
      let z₄ : 4096 ≤ length s₄ = store_size s₃ (prompted ok) z₃ in
      let e₁ = answers 4 repeat 0 (ascii "ATE0\r") fresh_store (during true true true false) ks _ (ascii "ATE0\rOK\r\n\r\n") echo_off_heard echo_plainly fresh_size refl in
      let e₂ = answers 3 repeat 1 (ascii "ATL0\r") s₁ (during false true true false) _ _ ok linefeeds_off_heard ok_plainly z₁ refl in
      let e₃ = answers 2 repeat 2 (ascii "ATS0\r") s₂ (during false false true false) _ _ ok spaces_off_heard ok_plainly z₂ refl in
      let e₄ = answers 1 repeat 3 (ascii "ATSP0\r") s₃ (during false false false false) _ _ ok protocol_heard ok_plainly z₃ refl in
      let e₅ = answers 0 repeat 4 (ascii "ATH1\r") s₄ (during false false false false) _ _ ok headers_on_heard ok_plainly z₄ refl in
      let e : initialised repeat ks ≡ _ = begins repeat ks ∙ e₁ ∙ e₂ ∙ e₃ ∙ e₄ ∙ e₅ in
      subst Started (sym e) (ends 5 (sets s₄ 0 (prompted ok)) _ (store_size s₄ (prompted ok) z₄))
