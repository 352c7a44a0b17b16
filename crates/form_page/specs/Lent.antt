-- A view that is lent, as plain data.
use Rattle.form_page.specs.declared.view.View.{View}
use Rattle.form_page.specs.Views as views

abbrev pub seen_in : View → views.View
seen_in v = record {
  value = v.value.now;
  checked = v.checked;
  selected = v.selected;
  candidate = v.candidate;
  flags = v.flags;
}
