-- A request: the lines before the body, and the body.
use Rattle.std.proofs.Common.{◌≡◌, ℕ, List, ◌++◌, Some, refl, sym, ap, subst, ◌∙◌, true, false}
use Rattle.std.specs.Prelude.{Option, All}
use Rattle.std.specs.Io.KnownBytes.{append_known}
use Rattle.std.specs.List.{concat}
use Rattle.form_ports.specs.Written.{WrotePart}
use Rattle.form_ports.proofs.Laws.{append_known-append, WrotePart-front, WrotePart-later}
use Rattle.form_submit.specs.declared.request.Request.{Request}
use Rattle.form_submit.specs.PrintedRequest.{get_head, post_head, printed_body, printed_request, IsBody, IsReady}
use Rattle.form_submit.specs.declared.request.Piece.{Piece}
use Rattle.form_submit.specs.Sending.{WroteBody, WroteBodyPart, WroteRequest, WroteRequestPart}
use Rattle.form_submit.proofs.SendLaws.{may_be}

printed-post : (request : Request) (kind : List ℕ) (body : List ℕ) → request.post ≡ true → request.kind ≡ Some kind
    → printed_request request body ≡ post_head request.url kind ++ printed_body body
unfolding printed_request
printed-post request kind body post is = rw (post, is) refl

printed-get : (request : Request) (body : List ℕ) → request.post ≡ false → printed_request request body ≡ get_head request.url
unfolding printed_request
printed-get request body post = rw post refl

-- the lines before the body, and then the body
pub WroteRequest-post : (contents : List (Option (Option (List ℕ)))) (request : Request) (pieces : List Piece) (url kind word : List ℕ) (written mid now : Option (List ℕ))
    → request.post ≡ true → request.kind ≡ Some kind → url ≡ request.url → word ≡ kind → mid ≡ append_known written (post_head url word)
    → pieces ≡ request.body → WroteBody contents pieces mid now → WroteRequest contents request written now
WroteRequest-post contents request pieces url kind word written mid now post is url_is word_is head pieces_are all = record {
  body = all.body;
  is_body = let P : List Piece → Type 0 = λ ps. IsBody contents ps all.body in subst P pieces_are all.is_body;
  lines = all.lines ∙ ap (λ w. append_known w (printed_body all.body)) head
      ∙ append_known-append written (post_head url word) (printed_body all.body)
      ∙ ap (λ u. append_known written (post_head u word ++ printed_body all.body)) url_is
      ∙ ap (λ k. append_known written (post_head request.url k ++ printed_body all.body)) word_is
      ∙ ap (append_known written) (sym (printed-post request kind all.body post is));
}

-- or a part of the body
pub WroteRequestPart-post : (contents : List (Option (Option (List ℕ)))) (request : Request) (pieces : List Piece) (url kind word : List ℕ) (written mid now : Option (List ℕ))
    → request.post ≡ true → request.kind ≡ Some kind → url ≡ request.url → word ≡ kind → mid ≡ append_known written (post_head url word)
    → pieces ≡ request.body → WroteBodyPart contents pieces mid now → WroteRequestPart contents request written now
WroteRequestPart-post contents request pieces url kind word written mid now post is url_is word_is head pieces_are part = record {
  body = part.body;
  is_body = let P : List Piece → Type 0 = λ ps. IsBody contents ps part.body in subst P pieces_are part.is_body;
  lines = WrotePart-later written mid now (printed_request request part.body) (post_head url word) (printed_body part.body)
      (printed-post request kind part.body post is
      ∙ ap (λ u. post_head u kind ++ printed_body part.body) (sym url_is) ∙ ap (λ k. post_head url k ++ printed_body part.body) (sym word_is))
      head part.lines;
}

-- or a part of the lines before it
pub WroteRequestPart-head : (contents : List (Option (Option (List ℕ)))) (request : Request) (url kind word : List ℕ) (written now : Option (List ℕ))
    → request.post ≡ true → request.kind ≡ Some kind → url ≡ request.url → word ≡ kind → All (λ one. IsReady contents one) request.body
    → WrotePart written now (post_head url word) → WroteRequestPart contents request written now
WroteRequestPart-head contents request url kind word written now post is url_is word_is ready part =
    let parts = may_be contents request.body ready in
    let body = concat parts.0 in
    record {
      body = body;
      is_body = record { parts = parts.0; each = parts.1; whole = refl };
      lines = WrotePart-front written now (printed_request request body) (post_head url word) (printed_body body)
          (printed-post request kind body post is
          ∙ ap (λ u. post_head u kind ++ printed_body body) (sym url_is) ∙ ap (λ k. post_head url k ++ printed_body body) (sym word_is)) part;
    }

-- a request that sends no body
pub WroteRequest-get : (contents : List (Option (Option (List ℕ)))) (request : Request) (url : List ℕ) (written now : Option (List ℕ))
    → request.post ≡ false → url ≡ request.url → All (λ one. IsReady contents one) request.body
    → now ≡ append_known written (get_head url) → WroteRequest contents request written now
WroteRequest-get contents request url written now post url_is ready head =
    let parts = may_be contents request.body ready in
    record {
      body = concat parts.0;
      is_body = record { parts = parts.0; each = parts.1; whole = refl };
      lines = head ∙ ap (λ u. append_known written (get_head u)) url_is ∙ ap (append_known written) (sym (printed-get request (concat parts.0) post));
    }

pub WroteRequestPart-get : (contents : List (Option (Option (List ℕ)))) (request : Request) (url : List ℕ) (written now : Option (List ℕ))
    → request.post ≡ false → url ≡ request.url → All (λ one. IsReady contents one) request.body
    → WrotePart written now (get_head url) → WroteRequestPart contents request written now
WroteRequestPart-get contents request url written now post url_is ready part =
    let parts = may_be contents request.body ready in
    let P : List ℕ → Type 0 = WrotePart written now in
    record {
      body = concat parts.0;
      is_body = record { parts = parts.0; each = parts.1; whole = refl };
      lines = subst P (ap get_head url_is ∙ sym (printed-get request (concat parts.0) post)) part;
    }
