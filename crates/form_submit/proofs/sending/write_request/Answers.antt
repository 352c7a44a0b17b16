use Rattle.std.proofs.Common.{◌∙◌}
use Rattle.form_ports.proofs.Laws.{NoneFell-same}
use Rattle.form_submit.proofs.RequestLaws.{WroteRequest-post, WroteRequestPart-post, WroteRequestPart-head, WroteRequest-get, WroteRequestPart-get}
use Rattle.form_submit.proofs.sending.write_request.Goals as goal

pub returns-in-Err-clause-counts : goal.returns-in-Err-clause-counts
returns-in-Err-clause-counts g c = NoneFell-same _

pub returns-in-Err-clause-part : goal.returns-in-Err-clause-part
returns-in-Err-clause-part g c =
    WroteRequestPart-head _ _ _ _ _ _ _ c.if-request.true c.in-Some.is (c.as_bytes-url.ensures.value ∙ c.as_str.ensures)
    (c.as_bytes.ensures.value ∙ c.as_str-then-request.ensures) c.requires.sendable.ready c.in-Err.ensures.part

pub returns-in-Ok-send_body-clause-whole : goal.returns-in-Ok-send_body-clause-whole
returns-in-Ok-send_body-clause-whole g c =
    WroteRequest-post _ _ _ _ _ _ _ _ _ c.if-request.true c.in-Some.is (c.as_bytes-url.ensures.value ∙ c.as_str.ensures)
    (c.as_bytes.ensures.value ∙ c.as_str-then-request.ensures) c.in-Ok.ensures.whole c.as_slice.ensures c.in-Ok-send_body.ensures.whole

pub returns-in-Ok-send_body-clause-position : goal.returns-in-Ok-send_body-clause-position
returns-in-Ok-send_body-clause-position g c = λ _. rw c.as_slice.ensures at c.in-Ok-send_body.ensures.position

pub returns-in-Ok-send_body-clause-part : goal.returns-in-Ok-send_body-clause-part
returns-in-Ok-send_body-clause-part g c =
    WroteRequestPart-post _ _ _ _ _ _ _ _ _ c.if-request.true c.in-Some.is (c.as_bytes-url.ensures.value ∙ c.as_str.ensures)
    (c.as_bytes.ensures.value ∙ c.as_str-then-request.ensures) c.in-Ok.ensures.whole c.as_slice.ensures c.in-Ok-send_body.ensures.part

pub returns-in-Err-send_body-clause-part : goal.returns-in-Err-send_body-clause-part
returns-in-Err-send_body-clause-part g c =
    WroteRequestPart-post _ _ _ _ _ _ _ _ _ c.if-request.true c.in-Some.is (c.as_bytes-url.ensures.value ∙ c.as_str.ensures)
    (c.as_bytes.ensures.value ∙ c.as_str-then-request.ensures) c.in-Ok.ensures.whole c.as_slice.ensures c.in-Err-send_body.ensures.part

pub returns-in-Ok-write_get-clause-counts : goal.returns-in-Ok-write_get-clause-counts
returns-in-Ok-write_get-clause-counts g c = NoneFell-same _

pub returns-in-Err-write_get-clause-counts : goal.returns-in-Err-write_get-clause-counts
returns-in-Err-write_get-clause-counts g c = NoneFell-same _

pub returns-in-Ok-write_get-clause-whole : goal.returns-in-Ok-write_get-clause-whole
returns-in-Ok-write_get-clause-whole g c =
    WroteRequest-get _ _ _ _ _ c.if-request.false (c.as_bytes-url.ensures.value ∙ c.as_str.ensures) c.requires.sendable.ready c.in-Ok-write_get.ensures.whole

pub returns-in-Ok-write_get-clause-part : goal.returns-in-Ok-write_get-clause-part
returns-in-Ok-write_get-clause-part g c =
    WroteRequestPart-get _ _ _ _ _ c.if-request.false (c.as_bytes-url.ensures.value ∙ c.as_str.ensures) c.requires.sendable.ready c.in-Ok-write_get.ensures.part

pub returns-in-Err-write_get-clause-part : goal.returns-in-Err-write_get-clause-part
returns-in-Err-write_get-clause-part g c =
    WroteRequestPart-get _ _ _ _ _ c.if-request.false (c.as_bytes-url.ensures.value ∙ c.as_str.ensures) c.requires.sendable.ready c.in-Err-write_get.ensures.part
