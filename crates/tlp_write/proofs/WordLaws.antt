-- Laws of a header in words, in the words of the returns.
use Prim.Native.Nat.{ℕ, ◌+◌, ◌*◌, ◌/◌, ◌%◌, ◌^◌, ◌≤◌}
use mathlib.Core.Path.{◌≡◌, refl, sym, ap, ◌∙◌}
use mathlib.Core.Bool.{Bool, true, false}
use mathlib.Core.List.{List, [], ◌∷◌, ◌++◌}
use native.Mathlib.Nat.{add-zero, div-add-mod', mod-lt, zero-lt-suc}
use native.Mathlib.Omega.{arith}
use lib.ListN.{length, take}
use mir.Val.{Fits}
use mir.Syntax.{w8, w32}
use Rattle.bits.specs.Choice.{pick, flag}
use Rattle.bits.specs.Word.{bytes}
use Rattle.bits.specs.Put.{put}
use Rattle.bits.proofs.WordLaws.{bytes_low, bytes-join, bytes_pair, pair_lt}
use Rattle.bits.proofs.PutLaws.{length-put, put_next}
use Rattle.tlp.specs.PacketTypes.{first_byte}
use Rattle.tlp.specs.declared.packet.Request.{Request}
use Rattle.tlp.specs.declared.packet.ConfigRequest.{ConfigRequest}
use Rattle.tlp.specs.declared.packet.MessageRequest.{MessageRequest}
use Rattle.tlp.specs.declared.packet.CompletionHeader.{CompletionHeader}
use Rattle.tlp_write.specs.Layout.{request_bytes, config_bytes, message_bytes, completion_bytes}
use Rattle.tlp_write.specs.Inner.Padded.{padded}
use Rattle.tlp_write.specs.Inner.Head.{head_front}
use Rattle.tlp_write.specs.declared.head.Head.{Head}

-- ---- bytes of joined numbers

append-same : (x y u v : List ℕ) → x ≡ y → u ≡ v → x ++ u ≡ y ++ v
append-same x y u v e h = rw (e, h)

pub word-law : (i a b m w : ℕ) → Fits w8 a → Fits w8 b → m ≡ a * 256 + b → w ≡ i * 65536 + m → bytes 4 w ≡ bytes 2 i ++ (a ∷ b ∷ [])
word-law i a b m w h k e f =
    rw (f, e) (bytes-join 2 2 i (a * 256 + b) (pair_lt a b h.fits k.fits) ∙ rw (bytes_pair a b h.fits k.fits))

pub high-law : (a : ℕ) → bytes 8 (a % 2 ^ 32 * 2 ^ 32) ≡ padded 8 (bytes 4 a)
high-law a =
    let e : bytes 8 (a % 2 ^ 32 * 2 ^ 32 + 0) ≡ bytes 4 (a % 2 ^ 32) ++ bytes 4 0 = bytes-join 4 4 (a % 2 ^ 32) 0 (zero-lt-suc _) in
    ap (λ (n : ℕ). bytes 8 n) (sym (add-zero (a % 2 ^ 32 * 2 ^ 32))) ∙ e ∙ ap (λ (l : List ℕ). l ++ bytes 4 0) (bytes_low 4 a)

-- ---- the kinds

module _ (v t : ℕ) where
  pub request-law : (q : Request) (xs : List ℕ) → bytes 4 v ≡ request_bytes q → bytes 8 t ≡ padded 8 xs
      → bytes 4 v ++ bytes 8 t ≡ padded 12 (request_bytes q ++ xs)
  request-law q xs e h = append-same _ (request_bytes q) _ (padded 8 xs) e h

  pub config-law : (q : ConfigRequest) (target w x : ℕ) → bytes 4 v ≡ request_bytes q.request → bytes 8 t ≡ padded 8 (bytes 4 x) → x ≡ w
      → bytes 4 w ≡ bytes 2 target ++ ((q.extended_register % 16) ∷ (q.register % 64 * 4) ∷ [])
      → bytes 4 v ++ bytes 8 t ≡ padded 12 (config_bytes target q)
  config-law q target w x e h i k =
      let third : List ℕ = bytes 2 target ++ ((q.extended_register % 16) ∷ (q.register % 64 * 4) ∷ []) in
      append-same _ (request_bytes q.request) _ (padded 8 third) e (h ∙ ap (λ (l : List ℕ). padded 8 l) (ap (bytes 4) i ∙ k))

  pub message-law : (m : MessageRequest) → bytes 4 v ≡ bytes 2 m.requester ++ (m.tag ∷ m.code ∷ [])
      → bytes 4 v ++ bytes 8 m.body ≡ message_bytes m
  message-law m e = append-same _ _ (bytes 8 m.body) _ e refl

  pub completion-law : (c : CompletionHeader) (requester w x f : ℕ) → f ≡ flag c.byte_count_modified
      → bytes 4 v ≡ bytes 2 c.completer ++ ((c.status % 8 * 32 + f * 16 + c.byte_count / 256 % 16) ∷ (c.byte_count % 256) ∷ [])
      → bytes 8 t ≡ padded 8 (bytes 4 x) → x ≡ w
      → bytes 4 w ≡ bytes 2 requester ++ (c.tag ∷ (c.lower_address % 128) ∷ [])
      → bytes 4 v ++ bytes 8 t ≡ padded 12 (completion_bytes requester c)
  completion-law c requester w x f g e h i k =
      let third : List ℕ = bytes 2 requester ++ (c.tag ∷ (c.lower_address % 128) ∷ []) in
      append-same _ _ _ (padded 8 third) (rw g at e) (h ∙ ap (λ (l : List ℕ). padded 8 l) (ap (bytes 4) i ∙ k))

-- ---- bytes 0 to 3

pub front-law : (h : Head) (v b f g : ℕ) → b ≡ first_byte h.packet_type → f ≡ flag h.has_digest → g ≡ flag h.poisoned
    → bytes 4 v
    ≡ ((b + h.routing % 8)
    ∷ (h.traffic_class % 8 * 16 + h.attributes / 4 % 2 * 4)
    ∷ (f * 128 + g * 64 + h.attributes % 4 * 16 + h.length / 256 % 4)
    ∷ (h.length % 256)
    ∷ [])
    → bytes 4 v ≡ head_front h
front-law h v b f g eb ef eg e = rw (eb, ef, eg) at e

-- ---- over the output

module _ (wide : Bool) (r t : ℕ) (w : List ℕ) (e : r ≡ 8 + length w) where
  pub wide-end : wide ≡ true → w ≡ bytes 8 t → r ≡ pick wide 16 12
  wide-end h k = rw (h, e, k)

  pub narrow-end : wide ≡ false → w ≡ bytes 4 t → r ≡ pick wide 16 12
  narrow-end h k = rw (h, e, k)

-- v is the first two words, x as one number
module _ (wide : Bool) (out o1 v : List ℕ) (x : ℕ) (l : pick wide 16 12 ≤ length out) (b : v ≡ bytes 8 x) where
  pub first-room : 0 + length v ≤ length out
  first-room = rw b (by wide l)
    where
      by : (b : Bool) → pick b 16 12 ≤ length out → 8 ≤ length out
      by true k = omega (arith, k)
      by false k = omega (arith, k)

  module _ (e : o1 ≡ put 0 v out) (w : List ℕ) (y : ℕ) where
    same-room : length o1 ≡ length out
    same-room = ap length e ∙ length-put 0 v out first-room

    pub second-wide : wide ≡ true → w ≡ bytes 8 y → 8 + length w ≤ length o1
    second-wide h k = rw k (omega (arith, same-room, rw h at l))

    pub second-narrow : wide ≡ false → w ≡ bytes 4 y → 8 + length w ≤ length o1
    second-narrow h k = rw k (omega (arith, same-room, rw h at l))

module _ (f s t x : ℕ) (wide : Bool) (out o1 o2 v w : List ℕ) (hs : Fits w32 s) (ex : x ≡ f * 2 ^ 32 + s) (b : v ≡ bytes 8 x)
    (e1 : o1 ≡ put 0 v out) (e2 : o2 ≡ put 8 w o1) where
  two-words : v ≡ bytes 4 f ++ bytes 4 s
  two-words = b ∙ rw ex (bytes-join 4 4 f s hs.fits)

  then-put : (xs : List ℕ) → w ≡ xs → o2 ≡ put 0 ((bytes 4 f ++ bytes 4 s) ++ xs) out
  then-put xs k = e2 ∙ rw (e1, two-words, k) (put_next (bytes 4 f ++ bytes 4 s) xs out)

  pub wide-put : wide ≡ true → w ≡ bytes 8 t → o2 ≡ put 0 (take (pick wide 16 12) (bytes 4 f ++ (bytes 4 s ++ bytes 8 t))) out
  wide-put h k = rw h (then-put (bytes 8 t) k)

  pub narrow-put : wide ≡ false → w ≡ bytes 4 (t / 2 ^ 32)
      → o2 ≡ put 0 (take (pick wide 16 12) (bytes 4 f ++ (bytes 4 s ++ bytes 8 t))) out
  narrow-put h k =
      let d : t / 2 ^ 32 * 2 ^ 32 + t % 2 ^ 32 ≡ t = div-add-mod' t (2 ^ 32) in
      let j : bytes 8 t ≡ bytes 4 (t / 2 ^ 32) ++ bytes 4 (t % 2 ^ 32) = ap (λ (n : ℕ). bytes 8 n) (sym d) ∙ bytes-join 4 4 (t / 2 ^ 32) (t % 2 ^ 32) (mod-lt t (zero-lt-suc _)) in
      rw h (then-put (bytes 4 (t / 2 ^ 32)) k ∙ ap (λ (l : List ℕ). put 0 (take 12 (bytes 4 f ++ (bytes 4 s ++ l))) out) (sym j))
